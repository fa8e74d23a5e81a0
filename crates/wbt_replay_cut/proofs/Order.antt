-- Who makes the next move, and when the run ends, is the same in the cut state.
use Rattle.std.proofs.Common.{◌≡◌, ℕ, zero, suc, ◌+◌, ◌-◌, ◌==◌, ◌&&◌, ◌||◌, Bool, true, false, cond, if◌then◌else◌, nat_lt, List, [], ◌∷◌, length, get_or, count_by, Option, Some, None, refl, sym, ◌∙◌, ap, subst, subst₂}
use Rattle.wbt_replay_order.proofs.Common.{Trace, make_step, make_move, make_timer_step, make_timer_move, begin_turn, State, cpu_of, with_cpu, with_timer, Actor, Cpu, ReplayJob, Stretch, Whose, Step, TimerTodo, Todo, after, cpu_ahead, ahead_of, task_turn, is_nothing, seek_job, cpu_turn, turn_at, job_at, is_full, is_halted, stop, step_or_stop, cpu_on, timer_on, go_on, begin_job, begin, with_orders, begin_or_drop, follow, next_moment, at_moment, actor_at, place_after, chance_by, chance_of, take, take_turn, seek_turn, next_turn, finish_turn, rotate_from, advance_by, advance, is_ended, run}
use Rattle.wbt_replay_moves.specs.declared.state.Actor.TheVariants as actor
use Rattle.wbt_replay_moves.specs.declared.state.ReplayJob.TheVariants as job
use Rattle.wbt_replay_moves.specs.declared.state.Stretch.TheVariants as stretch
use Rattle.wbt_replay_moves.specs.declared.state.Whose.TheVariants as whose
use Rattle.wbt_replay_moves.specs.declared.todo.TimerTodo.TheVariants as timer_todo
use Rattle.wbt_replay_moves.specs.declared.todo.Todo.TheVariants as todo
use Rattle.wbt_replay_order.specs.Definition.Order.{is_working}
use Rattle.wbt_replay_order.specs.declared.chance.Ahead.{Ahead}
use Rattle.wbt_replay_order.specs.declared.chance.Ahead.TheVariants as ahead
use Rattle.wbt_replay_order.specs.declared.chance.Chance.{Chance}
use Rattle.wbt_replay_order.specs.declared.chance.Chance.TheVariants as chance
use Rattle.wbt_replay_cut.specs.Cut.{Told, cut, IsWithin}
use Rattle.wbt_replay_cut.specs.Laws.{AdvanceIsCut}
use Rattle.wbt_replay_cut.proofs.Changes.{turns_keep, steps_keep, moves_keep, timer_turns_keep, timer_steps_keep, timer_moves_keep}
use Rattle.wbt_replay_cut.proofs.Lists.{steps_stay, cut_at, cpus_stay}
use Rattle.wbt_replay_cut.proofs.Parts.{IsCut, KeepsCpu, Keeps, becomes, still, made, whole, onto, steps_of, cpus_of, timer_of, at}

module _ (told : Told) where
  -- ---- what is asked of the cut state

  aheads_same : (a : Actor) (s : State) → ahead_of a (cut told s) ≡ ahead_of a s
  aheads_same (actor.Cpu i) s = ap cpu_ahead (cut_at told s.cpus i)
  aheads_same actor.Timer s = refl

  turns_same : (a : Actor) (s : State) → turn_at a (cut told s) ≡ turn_at a s
  unfolding seek_job task_turn
  turns_same (actor.Cpu i) s = ap (λ (c : Cpu). cpu_turn c s) (cut_at told s.cpus i)
  turns_same actor.Timer s = refl

  chances_by : (next : Ahead) (a : Actor) (s : State) → chance_by next a (cut told s) ≡ chance_by next a s
  chances_by ahead.Step a s = refl
  chances_by ahead.Silent a s = refl
  chances_by ahead.Nothing a s = turns_same a s

  chances_same : (a : Actor) (s : State) → chance_of a (cut told s) ≡ chance_of a s
  chances_same a s = ap (λ (next : Ahead). chance_by next a (cut told s)) (aheads_same a s) ∙ chances_by (ahead_of a s) a s

  full_same : (s : State) → IsWithin told s → is_full (cut told s) ≡ is_full s
  full_same s w = rw (steps_stay told s.steps w.steps) refl

  ended_same : (s : State) → is_ended (cut told s) ≡ is_ended s
  ended_same s = ap (λ (n : ℕ). s.spent || (s.stopped == n || (s.running == 0 && s.working == 0))) (cpus_stay told s.cpus)

  actors_same : (place : ℕ) (s : State) → actor_at place (cut told s) ≡ actor_at place s
  actors_same place s = ap (λ (n : ℕ). if nat_lt place n then actor.Cpu place else actor.Timer) (cpus_stay told s.cpus)

  -- ---- one of two

  either : {s u x y : State} (b c : Bool) → c ≡ b → IsCut told s x → IsCut told u y → IsCut told (cond b s u) (cond c x y)
  either {s} {u} {x} {y} b c e h k = subst (λ (d : Bool). IsCut told (cond b s u) (cond d x y)) (sym e) (by_test b)
    where
      by_test : (d : Bool) → IsCut told (cond d s u) (cond d x y)
      by_test true = h
      by_test false = k

  -- the same, as definitions that recur test it
  chosen : {s u x y : State} (b c : Bool) → c ≡ b → IsCut told s x → IsCut told u y
      → IsCut told (elim b [ true ↦ s | false ↦ u ]) (elim c [ true ↦ x | false ↦ y ])
  chosen {s} {u} {x} {y} b c e h k =
      subst (λ (d : Bool). IsCut told (elim b [ true ↦ s | false ↦ u ]) (elim d [ true ↦ x | false ↦ y ])) (sym e) (by_test b)
    where
      by_test : (d : Bool) → IsCut told (elim d [ true ↦ s | false ↦ u ]) (elim d [ true ↦ x | false ↦ y ])
      by_test true = h
      by_test false = k

module _ (trace : Trace) (told : Told) where
  -- ---- a move of an actor

  -- a CPU changes, and none of its lists
  with_cut : (i : ℕ) (f : Cpu → Cpu) → KeepsCpu told i f → Keeps told (λ s. with_cpu i (f (cpu_of i s)) s)
  with_cut i f keeps s w = made told (steps_of told s w) (becomes told i f keeps (cpus_of told s w)) (timer_of told s w) refl

  stop_cut : (i : ℕ) → Keeps told (stop i)
  stop_cut i s w =
      let u = stop i (cut told s) in
      made told (steps_of told s w)
      (becomes told i (λ c. record c { stopped = true }) (λ c. still told i _) (cpus_of told s w)) (timer_of told s w)
      (ap (λ (c : Cpu). record u { working = s.working - count_by (is_working s) c.jobs }) (cut_at told s.cpus i))

  step_cut : (i : ℕ) (step : Step) (rest : List Todo) → Keeps told (step_or_stop trace i step rest)
  step_cut i step rest s w =
      either told (is_halted trace.halt (cpu_of i s).made) _ (ap (λ (c : Cpu). is_halted trace.halt c.made) (cut_at told s.cpus i)) (stop_cut i s w)
      (either told (is_full s) _ (full_same told s w) (whole told _ w)
      (onto told (make_step trace i step) (steps_keep trace told i step)
      (with_cut i (λ c. record c { todo = rest; made = c.made + 1 }) (λ c. still told i _) s w)))

  on_cut : (i : ℕ) (todos : List Todo) → Keeps told (cpu_on trace i todos)
  on_cut i [] s w = whole told s w
  on_cut i (todo.Step step ∷ rest) s w = step_cut i step rest s w
  on_cut i (todo.Silent item ∷ rest) s w =
      onto told (make_move trace i item) (moves_keep trace told i item)
      (with_cut i (λ c. record c { todo = rest }) (λ c. still told i _) s w)

  timer_cut : (todos : List TimerTodo) → Keeps told (timer_on trace todos)
  timer_cut [] s w = whole told s w
  timer_cut (timer_todo.Step step ∷ rest) s w =
      either told (is_full s) _ (full_same told s w) (whole told _ w)
      (onto told (make_timer_step trace step) (timer_steps_keep trace told step) (whole told (with_timer (record s.timer { todo = rest }) s) w))
  timer_cut (timer_todo.Silent item ∷ rest) s w =
      onto told (make_timer_move item) (timer_moves_keep trace told item) (whole told (with_timer (record s.timer { todo = rest }) s) w)

  goes_on : (a : Actor) → Keeps told (go_on trace a)
  goes_on (actor.Cpu i) s w =
      at told s i (λ c. IsCut told (go_on trace (actor.Cpu i) s) (cpu_on trace i c.todo (cut told s))) (on_cut i (cpu_of i s).todo s w)
  goes_on actor.Timer s w = timer_cut s.timer.todo s w

  -- ---- a turn begins

  turned : (i : ℕ) (w : Whose) {s u : State} → IsCut told s u → IsCut told (begin_turn trace i w s) (begin_turn trace i w u)
  turned i w h = onto told (begin_turn trace i w) (turns_keep trace told i w) h

  job_cut : (i n place : ℕ) (j : ReplayJob)
      → Keeps told (λ s. begin_job trace i place j (record (cpu_of i s) { next = after (length (cpu_of i s).jobs) n }) s)
  job_cut i n place job.Writer s w =
      let f : Cpu → Cpu = λ c. record c { next = after (length c.jobs) n; next_task = after (length c.tasks) place } in
      let v = with_cpu i (f (cpu_of i s)) s in
      let x = with_cpu i (f (cpu_of i (cut told s))) (cut told s) in
      let task = get_or (cpu_of i s).tasks place 0 in
      at told s i (λ c. IsCut told (begin_turn trace i (whose.Task task) v) (begin_turn trace i (whose.Task (get_or c.tasks place 0)) x))
      (turned i (whose.Task task) (with_cut i f (λ c. still told i _) s w))
  job_cut i n place (job.Flusher flusher) s w =
      turned i (whose.Flusher flusher)
      (with_cut i (λ c. record c { next = after (length c.jobs) n }) (λ c. still told i _) s w)

  begin_cut : (a : Actor) (n place : ℕ) → Keeps told (begin trace a n place)
  begin_cut (actor.Cpu i) n place s w =
      let c : Cpu = record (cpu_of i (cut told s)) { next = after (length (cpu_of i (cut told s)).jobs) n } in
      at told s i (λ d. IsCut told (begin trace (actor.Cpu i) n place s) (begin_job trace i place (job_at n d) c (cut told s)))
      (job_cut i n place (job_at n (cpu_of i s)) s w)
  begin_cut actor.Timer n place s w = whole told s w

  -- ---- the order lines

  drop_cut : (a : Actor) (chance : Chance) (more : List Stretch) → Keeps told (begin_or_drop trace a chance more)
  drop_cut a chance.Nothing more s w = whole told _ w
  drop_cut a chance.GoesOn more s w = goes_on a s w
  drop_cut a (chance.Begins n place) more s w = begin_cut a n place s w
  drop_cut a chance.TimerBegins more s w = timer_turns_keep trace told s w

  follow_cut : (a : Actor) (steps : ℕ) (next : Ahead) (more : List Stretch) → Keeps told (follow trace a steps next more)
  follow_cut a steps ahead.Silent more s w = goes_on a s w
  follow_cut a zero ahead.Step more s w = whole told _ w
  follow_cut a (suc steps) ahead.Step more s w =
      onto told (go_on trace a) (goes_on a) (whole told (with_orders (stretch.Steps a steps ∷ more) s) w)
  follow_cut a zero ahead.Nothing more s w = whole told _ w
  follow_cut a (suc steps) ahead.Nothing more s w =
      subst (λ (c : Chance). IsCut told (follow trace a (suc steps) ahead.Nothing more s) (begin_or_drop trace a c more (cut told s)))
      (sym (turns_same told a s)) (drop_cut a (turn_at a s) more s w)

  -- ---- the rotation

  clock_by : (found : Option ℕ) → Keeps told (at_moment found)
  clock_by None s w = whole told s w
  clock_by (Some moment) s w = whole told _ w

  take_cut : (a : Actor) (chance : Chance) → Keeps told (take trace a chance)
  take_cut a chance.Nothing s w = whole told s w
  take_cut a chance.GoesOn s w = goes_on a s w
  take_cut a (chance.Begins n place) s w = begin_cut a n place s w
  take_cut a chance.TimerBegins s w = timer_turns_keep trace told s w

  takes_turn : (a : Actor) → Keeps told (take_turn trace a)
  takes_turn a s w =
      let now : State = record s { rotation = Some a } in
      subst (λ (c : Chance). IsCut told (take_turn trace a s) (take trace a c (cut told now))) (sym (chances_same told a s)) (take_cut a (chance_of a s) now w)

  seek_cut : (tries place : ℕ) → Keeps told (seek_turn trace tries place)
  unfolding seek_turn
  seek_cut zero place s w = clock_by (next_moment s) s w
  seek_cut (suc tries) place s w =
      let u = cut told s in
      let a = actor_at place s in
      let none = ap (λ (b : Actor). is_nothing (chance_of b u)) (actors_same told place s) ∙ ap is_nothing (chances_same told a s) in
      chosen told (is_nothing (chance_of a s)) (is_nothing (chance_of (actor_at place u) u)) none
      (subst (λ (n : ℕ). IsCut told (seek_turn trace tries (after (length s.cpus + 1) place) s) (seek_turn trace tries (after (n + 1) place) u))
      (sym (cpus_stay told s.cpus)) (seek_cut tries (after (length s.cpus + 1) place) s w))
      (subst (λ (b : Actor). IsCut told (take_turn trace a s) (take_turn trace b u)) (sym (actors_same told place s)) (takes_turn a s w))

  place_same : (turn : Option Actor) (s : State) → place_after turn (cut told s) ≡ place_after turn s
  place_same None s = refl
  place_same (Some (actor.Cpu i)) s = ap (λ (n : ℕ). if nat_lt i n then i + 1 else 0) (cpus_stay told s.cpus)
  place_same (Some actor.Timer) s = refl

  next_cut : Keeps told (next_turn trace)
  next_cut s w =
      let u = cut told s in
      let place = place_after s.rotation s in
      let tries = length s.cpus + 1 in
      subst₂ (λ (n p : ℕ). IsCut told (seek_turn trace tries place s) (seek_turn trace (n + 1) p u))
      (sym (cpus_stay told s.cpus)) (sym (place_same s.rotation s)) (seek_cut tries place s w)

  finish_cut : (a : Actor) (next : Ahead) → Keeps told (finish_turn trace a next)
  finish_cut a ahead.Step s w = goes_on a s w
  finish_cut a ahead.Silent s w = goes_on a s w
  finish_cut a ahead.Nothing s w = next_cut s w

  rotate_cut : (turn : Option Actor) → Keeps told (rotate_from trace turn)
  rotate_cut None s w = next_cut s w
  rotate_cut (Some a) s w =
      subst (λ (next : Ahead). IsCut told (rotate_from trace (Some a) s) (finish_turn trace a next (cut told s))) (sym (aheads_same told a s))
      (finish_cut a (ahead_of a s) s w)

  -- ---- the run

  move_cut : (orders : List Stretch) → Keeps told (advance_by trace orders)
  move_cut [] s w = rotate_cut s.rotation s w
  move_cut (stretch.Tick ticks ∷ more) s w = whole told _ w
  move_cut (stretch.Steps a steps ∷ more) s w =
      subst (λ (next : Ahead). IsCut told (follow trace a steps (ahead_of a s) more s) (follow trace a steps next more (cut told s)))
      (sym (aheads_same told a s)) (follow_cut a steps (ahead_of a s) more s w)

  advance_cut : Keeps told (advance trace)
  advance_cut s w = move_cut s.orders s w

  run_cut : (n : ℕ) → Keeps told (run trace n)
  unfolding run
  run_cut zero s w = whole told s w
  run_cut (suc n) s w =
      chosen told (is_ended s) (is_ended (cut told s)) (ended_same told s) (whole told s w)
      (onto told (run trace n) (run_cut n) (advance_cut s w))

pub advance_is_cut : AdvanceIsCut
advance_is_cut = λ trace told s w. record {
  move = (advance_cut trace told s w).same;
  within = (advance_cut trace told s w).within;
  ends = ended_same told s;
  moves = λ n. (run_cut trace told n s w).same;
  stays_within = λ n. (run_cut trace told n s w).within;
}
