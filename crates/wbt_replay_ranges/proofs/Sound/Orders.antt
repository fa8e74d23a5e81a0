-- Who makes the next move: the order lines and the rotation keep the state sound.
use Rattle.std.proofs.Common.{◌≡◌, ◌≢◌, ℕ, ◌<◌, Bool, true, false, cond, leb, not, ◌&&◌, [], length, get_or, All, refl, sym, ◌∙◌, subst, arith, Option}
use Rattle.std.proofs.lemmas.List.Elements.{All-get_or}
use Rattle.wbt_replay_order.proofs.Common.{Trace, State, cpu_of, task_of, Actor, Cpu, ReplayJob, ReplayTask, after, todo_ahead, cpu_ahead, ahead_of, is_task_ready, job_at, turn_at, begin_job, begin, Facts, IsTaskOn, IsJobOn, Sound, HasRoom}
use Rattle.wbt_replay_moves.specs.declared.state.Actor.TheVariants as who
use Rattle.wbt_replay_moves.specs.declared.state.ReplayJob.TheVariants as job
use Rattle.wbt_replay_moves.specs.declared.state.Whose.TheVariants as whose
use Rattle.wbt_replay_moves.specs.declared.todo.Todo.TheVariants as todo
use Rattle.wbt_replay_order.specs.declared.chance.Ahead.{Ahead}
use Rattle.wbt_replay_order.specs.declared.chance.Ahead.TheVariants as ahead
use Rattle.wbt_replay_order.specs.declared.chance.Chance.TheVariants as chance
use Rattle.wbt_replay_order.proofs.Facts.Jobs.{flusher_on}
use Rattle.wbt_replay_order.proofs.Search.{IsFound, IsTurn, free_cpu, turn_found}
use Rattle.wbt_replay_order.proofs.Facts.Actors.{there_by_ahead}
use Rattle.wbt_replay_ranges.proofs.Sound.Begins.{after_less, turn_begins}
use Rattle.wbt_replay_ranges.proofs.Sound.Moves.{Keeps, Lives}
use Rattle.wbt_replay_ranges.proofs.Sound.Pops.{is_done}

-- a task that is ready hasn't ended

ready_runs : (now : ℕ) (t : ReplayTask) → is_task_ready now t ≡ true → t.ended ≡ false
ready_runs now t h = by_end t.ended refl
  where
    by_end : (b : Bool) → t.ended ≡ b → t.ended ≡ false
    by_end true e = let no : not true && leb t.rest now ≡ true = subst (λ (b : Bool). not b && leb t.rest now ≡ true) e h in absurd (cc no)
    by_end false e = e

module _ (trace : Trace) (facts : Facts trace) (s : State) (sound : Sound trace s) (room : HasRoom trace s) where
  -- ---- who isn't stopped

  live_cpu : (i : ℕ) (a : Ahead) → cpu_ahead (cpu_of i s) ≡ a → a ≢ ahead.Nothing → (cpu_of i s).stopped ≡ false
  live_cpu i a is some = by_stop (cpu_of i s).stopped refl is
    where
      by_stop : (b : Bool) → (cpu_of i s).stopped ≡ b → cond b ahead.Nothing (todo_ahead (cpu_of i s).todo) ≡ a → (cpu_of i s).stopped ≡ false
      by_stop true e f = absurd (some (sym f))
      by_stop false e f = e

  pub lives_of : (actor : Actor) (a : Ahead) → ahead_of actor s ≡ a → a ≢ ahead.Nothing → Lives trace facts s sound room actor
  lives_of (who.Cpu i) a is some =
      let less = there_by_ahead s i (λ none. some (sym is ∙ none)) in
      (omega (arith, less, sound.holds.cpus.many), live_cpu i a is some)
  lives_of who.Timer a is some = tt

  -- ---- a turn begins

  cpu_begins : (i : ℕ) → i < trace.cpus → (cpu_of i s).stopped ≡ false → (cpu_of i s).todo ≡ [] → (n place : ℕ) → (j : ReplayJob) → job_at n (cpu_of i s) ≡ j → IsTurn (cpu_of i s) s n place
      → Keeps trace (begin_job trace i place j (record (cpu_of i s) { next = after (length (cpu_of i s).jobs) n }) s)
  cpu_begins i less live idle n place job.Writer is turn =
      let h = sound.holds.cpus.each i less in
      let k : ℕ = get_or (cpu_of i s).tasks place 0 in
      let all : All (IsTaskOn trace i) (cpu_of i s).tasks = subst (All (IsTaskOn trace i)) (sym h.tasks) (facts.tasks i) in
      is_done trace facts i less _ (turn_begins trace facts i less s sound room live idle (after (length (cpu_of i s).jobs) n) (after (length (cpu_of i s).tasks) place) (whose.Task k)
      (λ some. after_less (length (cpu_of i s).jobs) n some) (λ some. after_less (length (cpu_of i s).tasks) place some) (All-get_or (IsTaskOn trace i) (cpu_of i s).tasks place 0 (turn.task is h.next_task) all)
      (λ m e. let same : k ≡ m = cc e in subst (λ (x : ℕ). (task_of x s).ended ≡ false) same (ready_runs s.now (task_of k s) (turn.runs is))))
  cpu_begins i less live idle n place (job.Flusher f) is turn =
      let h = sound.holds.cpus.each i less in
      let all : All (IsJobOn trace i) (cpu_of i s).jobs = subst (All (IsJobOn trace i)) (sym h.jobs) (facts.jobs i) in
      is_done trace facts i less _ (turn_begins trace facts i less s sound room live idle (after (length (cpu_of i s).jobs) n) (cpu_of i s).next_task (whose.Flusher f)
      (λ some. after_less (length (cpu_of i s).jobs) n some) h.next_task (flusher_on trace i f n (cpu_of i s).jobs all is)
      (λ m e. absurd (cc e)))

-- ---- whoever's turn it is in the rotation

module _ (trace : Trace) (facts : Facts trace) (s : State) (turn : Option Actor) (sound : Sound trace (record s { rotation = turn })) (room : HasRoom trace (record s { rotation = turn })) where
  pub begins_kept : (actor : Actor) (n place : ℕ) → ahead_of actor s ≡ ahead.Nothing → turn_at actor s ≡ chance.Begins n place → Keeps trace (begin trace actor n place (record s { rotation = turn }))
  begins_kept (who.Cpu i) n place none is =
      let free = free_cpu s i n place none is in
      let found = subst (IsFound (cpu_of i s) s) is (turn_found (cpu_of i s) s) in
      cpu_begins trace facts (record s { rotation = turn }) sound room i (omega (arith, free.there, sound.holds.cpus.many)) free.live free.idle n place (job_at n (cpu_of i s)) refl
      (record { among = found.among; task = found.task; runs = found.runs; flusher = found.flusher })
  begins_kept who.Timer n place none is = (sound, room)
