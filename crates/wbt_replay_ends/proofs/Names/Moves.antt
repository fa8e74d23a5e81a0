-- Each move of a run names what is there.
use Rattle.std.proofs.Common.{inl, ℕ, pos, ◌+◌, true, List, [], ◌∷◌, length, get_or, All, Option, Some, None, refl}
use Rattle.std.proofs.lemmas.List.Elements.{All-head}
use Rattle.wbt_replay_order.proofs.Common.{after_period, Half, Trace, make_timer_step, make_timer_move, State, cpu_of, domain_of, with_cpu, begin_timer, with_timer, peak, is_time, periods, period_to, Actor, Cpu, ReplayJob, Stretch, TimerSilent, TimerStep, TimerTodo, Todo, after, job_at, is_full, is_halted, stop, cpu_on, timer_on, go_on, begin_job, begin, advance, Facts, PartNamesInOrder, Naming, TimerItemFits, Sound}
use Rattle.wbt_grant.specs.declared.who.StepKind.TheVariants as kind
use Rattle.wbt_replay_moves.specs.declared.state.Actor.TheVariants as who
use Rattle.wbt_replay_moves.specs.declared.state.ReplayJob.TheVariants as job
use Rattle.wbt_replay_moves.specs.declared.state.Whose.TheVariants as whose
use Rattle.wbt_replay_moves.specs.declared.todo.TimerSilent.TheVariants as timer_silent
use Rattle.wbt_replay_moves.specs.declared.todo.TimerStep.TheVariants as timer_step
use Rattle.wbt_replay_moves.specs.declared.todo.TimerTodo.TheVariants as timer_todo
use Rattle.wbt_replay_moves.specs.declared.todo.Todo.TheVariants as todo
use Rattle.wbt_replay_order.specs.declared.chance.Ahead.TheVariants as next
use Rattle.wbt_replay_order.proofs.Facts.Lists.{either}
use Rattle.wbt_replay_order.proofs.Walk.{clocked, turned, walked}
use Rattle.wbt_replay_ends.proofs.Names.Items.{Reaches, reaches, step_logs, move_logs}
use Rattle.wbt_replay_ends.proofs.Names.Changes.{turn_logs}
use Rattle.wbt_replay_ends.proofs.Names.Logs.{Logs, quiet_logs, entry_logs, alone_logs, same_logs}

-- ---- turns begin

module _ (trace : Trace) (i : ℕ) where
  job_logs : (place : ℕ) (j : ReplayJob) (c : Cpu) (s : State) → (PartNamesInOrder (cpu_of i s) → PartNamesInOrder c)
      → Logs trace s (begin_job trace i place j c s)
  job_logs place job.Writer c s keeps h =
      let d = record c { next_task = after (length c.tasks) place } in
      turn_logs trace i (whose.Task (get_or c.tasks place 0)) (with_cpu i d s) (entry_logs trace s (with_cpu i d s) i d refl keeps refl h)
  job_logs place (job.Flusher f) c s keeps h = turn_logs trace i (whose.Flusher f) (with_cpu i c s) (entry_logs trace s (with_cpu i c s) i c refl keeps refl h)

begin_logs : (trace : Trace) (actor : Actor) (n place : ℕ) (s : State) → Logs trace s (begin trace actor n place s)
begin_logs trace (who.Cpu i) n place s =
    job_logs trace i place (job_at n (cpu_of i s)) (record (cpu_of i s) { next = after (length (cpu_of i s).jobs) n }) s (λ h. h)
begin_logs trace who.Timer n place s = λ h. h

-- ---- the timer

timer_step_logs : (trace : Trace) (item : TimerStep) (s : State) → TimerItemFits trace (timer_todo.Step item) → Logs trace s (make_timer_step trace item s)
unfolding make_timer_step
timer_step_logs trace (timer_step.Count d) s fits = alone_logs trace s _ (length s.cpus) kind.Count refl refl
timer_step_logs trace (timer_step.Peak d) s fits =
    same_logs trace s (peak d s) ((record { who = length s.cpus; kind = kind.Peak; context = 0; change = pos 0; domain = d; peak = s.timer.limits.hard }) ∷ []) refl refl ((inl refl, fits), tt)
timer_step_logs trace (timer_step.Unseal d) s fits = alone_logs trace s _ (length s.cpus) kind.Unseal refl refl
timer_step_logs trace (timer_step.Thresh d) s fits = alone_logs trace s _ (length s.cpus) kind.Thresh refl refl
timer_step_logs trace (timer_step.Publish d) s fits = alone_logs trace s _ (length s.cpus) kind.Publish refl refl

period_logs : (trace : Trace) (domain k : ℕ) (found : Option Half) (s : State) → Logs trace s (period_to domain k found s)
period_logs trace domain k None s h = h
period_logs trace domain k (Some events) s h = quiet_logs trace s (period_to domain k (Some events) s) refl refl h

timer_move_logs : (trace : Trace) (item : TimerSilent) (s : State) → Logs trace s (make_timer_move item s)
unfolding make_timer_move
timer_move_logs trace (timer_silent.Period d) s = either (Logs trace s) (is_time s.timer) _ _
    (λ is. period_logs trace d (periods s.timer) (after_period (domain_of d s).events (periods s.timer)) s)
    (λ is h. h)
timer_move_logs trace timer_silent.Rest s = quiet_logs trace s _ refl refl

-- ---- an actor goes on

module _ (trace : Trace) (facts : Facts trace) (s : State) (reach : Reaches trace s) (fits : All (TimerItemFits trace) s.timer.todo) where
  cpu_on_logs : (i : ℕ) (todos : List Todo) → Logs trace s (cpu_on trace i todos s)
  cpu_on_logs i [] = λ h. h
  cpu_on_logs i (todo.Step item ∷ rest) = either (Logs trace s) (is_halted trace.halt (cpu_of i s).made) _ _
      (λ halted. entry_logs trace s (stop i s) i (record (cpu_of i s) { stopped = true }) refl (λ h. h) refl)
      (λ on. either (Logs trace s) (is_full s) _ _
      (λ full. quiet_logs trace s _ refl refl)
      (λ room h.
      let c = record (cpu_of i s) { todo = rest; made = (cpu_of i s).made + 1 } in
      step_logs trace i (with_cpu i c s) facts (record { works = reach.works; phases = reach.phases }) item (entry_logs trace s (with_cpu i c s) i c refl (λ h. h) refl h)))
  cpu_on_logs i (todo.Silent item ∷ rest) = λ h.
      let c = record (cpu_of i s) { todo = rest } in
      move_logs trace i (with_cpu i c s) item (entry_logs trace s (with_cpu i c s) i c refl (λ h. h) refl h)

  timer_on_logs : (todos : List TimerTodo) → All (TimerItemFits trace) todos → Logs trace s (timer_on trace todos s)
  timer_on_logs [] all = λ h. h
  timer_on_logs (timer_todo.Step item ∷ rest) all = either (Logs trace s) (is_full s) _ _
      (λ full. quiet_logs trace s _ refl refl)
      (λ room h. let u = with_timer (record s.timer { todo = rest }) s in timer_step_logs trace item u (All-head (TimerItemFits trace) (timer_todo.Step item) rest all) (quiet_logs trace s u refl refl h))
  timer_on_logs (timer_todo.Silent item ∷ rest) all = λ h.
      let u = with_timer (record s.timer { todo = rest }) s in timer_move_logs trace item u (quiet_logs trace s u refl refl h)

  go_logs : (actor : Actor) → Logs trace s (go_on trace actor s)
  go_logs (who.Cpu i) = cpu_on_logs i (cpu_of i s).todo
  go_logs who.Timer = timer_on_logs s.timer.todo fits

-- ---- a move of the run

-- Each move keeps what is named.
pub advance_logs : (trace : Trace) → Facts trace → (s : State) → Sound trace s → Naming trace s → Naming trace (advance trace s)
advance_logs trace facts s sound =
    walked trace s (Logs trace s) (λ orders rotation now. quiet_logs trace s (clocked orders rotation now s) refl refl)
    (λ orders rotation actor some h.
    let reach = reaches trace s sound in
    go_logs trace facts (turned orders rotation s) (record { works = reach.works; phases = reach.phases }) sound.holds.timer.todo actor (turn orders rotation h))
    (λ orders rotation i n place free found h. begin_logs trace (who.Cpu i) n place (turned orders rotation s) (turn orders rotation h))
    (λ orders rotation none time h. let u = turned orders rotation s in quiet_logs trace u (begin_timer u) refl refl (turn orders rotation h))
  where
    turn : (orders : List Stretch) (rotation : Option Actor) → Logs trace s (turned orders rotation s)
    turn orders rotation = quiet_logs trace s (turned orders rotation s) refl refl
