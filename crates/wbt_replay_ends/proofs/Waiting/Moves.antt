-- Each move of a run keeps it that what is still to be cleaned waits.
use Rattle.std.proofs.Common.{◌≡◌, ℕ, ◌+◌, ◌<◌, true, List, [], ◌∷◌, length, get_or, All, Option, refl, sym, ap, subst, arith, ⊎_elim}
use Rattle.std.proofs.lemmas.Bool.{cases_lt}
use Rattle.std.proofs.lemmas.List.{get_or_past}
use Rattle.wbt_replay_order.proofs.Common.{Trace, make_step, make_timer_step, State, no_cpu, cpu_of, with_cpu, begin_timer, with_timer, Actor, Cpu, ReplayJob, Stretch, TimerTodo, Todo, after, job_at, is_full, is_halted, spend, stop, cpu_on, timer_on, go_on, begin_job, advance, Facts, IsJobOn, Waiting}
use Rattle.wbt_replay_moves.specs.declared.state.Actor.TheVariants as who
use Rattle.wbt_replay_moves.specs.declared.state.ReplayJob.TheVariants as job
use Rattle.wbt_replay_moves.specs.declared.state.Whose.TheVariants as whose
use Rattle.wbt_replay_moves.specs.declared.todo.TimerTodo.TheVariants as timer_todo
use Rattle.wbt_replay_moves.specs.declared.todo.Todo.TheVariants as todo
use Rattle.wbt_replay_order.proofs.Facts.Jobs.{flusher_on}
use Rattle.wbt_replay_order.proofs.Facts.Lists.{either}
use Rattle.wbt_replay_order.proofs.Walk.{clocked, turned, walked}
use Rattle.wbt_replay_ends.proofs.Waiting.Items.{step_waits, move_waits}
use Rattle.wbt_replay_order.proofs.Lists.Todos.{same_alike}
use Rattle.wbt_replay_ends.proofs.Waiting.Needs.{Needs, needs_moved}
use Rattle.wbt_replay_ends.proofs.Waiting.Quiet.{timer_step_waits, timer_move_waits}
use Rattle.wbt_replay_ends.proofs.Waiting.Still.{still, cpu_stays}
use Rattle.wbt_replay_ends.proofs.Waiting.Turns.{turn_waits}

-- ---- an actor's move

module _ (trace : Trace) (facts : Facts trace) (s : State) (needs : Needs trace s) (w : Waiting trace s) where
  cpu_on_waits : (i : ℕ) → i < trace.cpus → (todos : List Todo) → (cpu_of i s).todo ≡ todos → Waiting trace (cpu_on trace i todos s)
  cpu_on_waits i less [] is = w
  cpu_on_waits i less (todo.Silent x ∷ rest) is = move_waits trace facts i less s needs w rest x is
  cpu_on_waits i less (todo.Step x ∷ rest) is =
      either (Waiting trace) (is_halted trace.halt (cpu_of i s).made) (stop i s) _
      (λ halted. cpu_stays trace i (record (cpu_of i s) { stopped = true }) s (stop i s) w (same_alike trace (cpu_of i s) _ refl refl) refl (omega arith) refl refl refl refl)
      (λ going. either (Waiting trace) (is_full s) (spend s) (make_step trace i x (with_cpu i (record (cpu_of i s) { todo = rest; made = (cpu_of i s).made + 1 }) s))
      (λ full. still trace s (spend s) w refl (omega arith) refl refl refl refl)
      (λ more. step_waits trace facts i less s needs w rest x is))

  timer_on_waits : (todos : List TimerTodo) → Waiting trace (timer_on trace todos s)
  timer_on_waits [] = w
  timer_on_waits (timer_todo.Step x ∷ rest) =
      let u : State = with_timer (record s.timer { todo = rest }) s in
      either (Waiting trace) (is_full s) (spend s) (make_timer_step trace x u) (λ full. still trace s (spend s) w refl (omega arith) refl refl refl refl)
      (λ more. timer_step_waits trace u (still trace s u w refl (omega arith) refl refl refl refl) x)
  timer_on_waits (timer_todo.Silent x ∷ rest) =
      let u : State = with_timer (record s.timer { todo = rest }) s in
      timer_move_waits trace u (still trace s u w refl (omega arith) refl refl refl refl) x

  go_on_waits : (actor : Actor) → Waiting trace (go_on trace actor s)
  go_on_waits (who.Cpu i) = ⊎_elim
      (λ below. cpu_on_waits i (omega (arith, below, needs.cpus.many)) (cpu_of i s).todo refl)
      (λ past. subst (λ (l : List Todo). Waiting trace (cpu_on trace i l s)) (ap (λ (c : Cpu). c.todo) (sym (get_or_past s.cpus i no_cpu past))) w)
      (cases_lt i (length s.cpus))
  go_on_waits who.Timer = timer_on_waits s.timer.todo

  -- ---- a turn begins

  job_waits : (i : ℕ) → i < trace.cpus → (cpu_of i s).todo ≡ [] → (n place : ℕ) (j : ReplayJob) → job_at n (cpu_of i s) ≡ j
      → Waiting trace (begin_job trace i place j (record (cpu_of i s) { next = after (length (cpu_of i s).jobs) n }) s)
  job_waits i less none n place job.Writer is =
      let c : Cpu = record (cpu_of i s) { next = after (length (cpu_of i s).jobs) n } in
      turn_waits trace facts i less (whose.Task (get_or c.tasks place 0)) tt (record c { next_task = after (length c.tasks) place }) s none none needs.cpus.many needs.flushers.many needs.queues w
  job_waits i less none n place (job.Flusher f) is =
      let all : All (IsJobOn trace i) (cpu_of i s).jobs = subst (All (IsJobOn trace i)) (sym (needs.cpus.each i less).jobs) (facts.jobs i) in
      turn_waits trace facts i less (whose.Flusher f) (flusher_on trace i f n (cpu_of i s).jobs all is) (record (cpu_of i s) { next = after (length (cpu_of i s).jobs) n }) s none none needs.cpus.many needs.flushers.many needs.queues w

-- ---- the order

module _ (trace : Trace) (facts : Facts trace) (s : State) (needs : Needs trace s) (w : Waiting trace s) where
  turn : (orders : List Stretch) (rotation : Option Actor) → Waiting trace (turned orders rotation s)
  turn orders rotation = still trace s (turned orders rotation s) w refl (omega arith) refl refl refl refl

  pub advance_waits : Waiting trace (advance trace s)
  advance_waits =
      walked trace s (Waiting trace) (λ orders rotation now. still trace s (clocked orders rotation now s) w refl (omega arith) refl refl refl refl)
      (λ orders rotation actor some. go_on_waits trace facts (turned orders rotation s) (needs_moved trace s orders rotation needs) (turn orders rotation) actor)
      (λ orders rotation i n place free found.
      job_waits trace facts (turned orders rotation s) (needs_moved trace s orders rotation needs) (turn orders rotation) i (omega (arith, free.there, needs.cpus.many)) free.idle n place
      (job_at n (cpu_of i s)) refl)
      (λ orders rotation none time. let u = turned orders rotation s in still trace u (begin_timer u) (turn orders rotation) refl (omega arith) refl refl refl refl)
