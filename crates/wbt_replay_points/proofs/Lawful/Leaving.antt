-- Moves that leave a part of the state: what a law says of that part stays over each move of the timer, and over a written page follows from the
-- page's entry.
use Rattle.std.proofs.Common.{◌≡◌, ℕ, zero, suc, ◌<◌, false, true, pos, Bool, List, length, Option, Some, None, refl, arith}
use Rattle.std.proofs.lemmas.List.{length-set}
use Rattle.wbt_book.specs.declared.event.Event.TheVariants as event
use Rattle.wbt_replay_order.proofs.Common.{after_period, Half, context_of, group_of, Trace, TimerEntry, do_next, log_at, owed_to, make_timer_step, make_timer_move, State, cpu_of, with_cpu, task_of, with_task, domain_of, plain_step, with_event, with_timer, load, period_to, periods, is_time, passed_page, count_page, dirty_fresh, Actor, Cpu, Domain, Flusher, ReplayWork, Stretch, Writeback, TimerSilent, TimerStep, TimerTodo, Todo, IsTaskOn}
use Rattle.wbt_grant.specs.declared.who.StepKind.TheVariants as kind
use Rattle.wbt_journal.specs.declared.entry.Entry.TheVariants as entry
use Rattle.wbt_replay_moves.specs.declared.todo.Step.TheVariants as step
use Rattle.wbt_replay_moves.specs.declared.todo.TimerSilent.TheVariants as timer_silent
use Rattle.wbt_replay_moves.specs.declared.todo.TimerStep.TheVariants as timer_step
use Rattle.wbt_replay_moves.specs.declared.todo.Todo.TheVariants as todo
use Rattle.wbt_replay_order.proofs.Facts.Lists.{either}
use Rattle.wbt_replay_points.proofs.Lawful.Now.{WritesNow, counted_cpu}
use Rattle.wbt_replay_points.proofs.Lawful.Same.{log_of}
use Rattle.wbt_replay_order.proofs.Walk.{turned}

-- ---- a page is written

-- a law goes over the write of a page that was dirty
abbrev pub KnownWrites : (trace : Trace) (R : State → State → Type 0) → Type 0
KnownWrites trace R = (cpu task inode page pages : ℕ) (works : List ReplayWork) (s : State) → WritesNow trace cpu task inode page pages works s
    → R s (plain_step cpu kind.Dirty (log_at cpu (entry.Write task page false) (with_task task (passed_page inode page pages works (task_of task s)) s)))

-- and over that of a page that was not
abbrev pub FreshWrites : (trace : Trace) (R : State → State → Type 0) → Type 0
FreshWrites trace R = (cpu task inode page pages : ℕ) (works : List ReplayWork) (s : State) → WritesNow trace cpu task inode page pages works s
    → R s (dirty_fresh trace cpu task inode page (with_task task (passed_page inode page pages works (task_of task s)) s))

-- what is said of CPUs, flushers and contexts alone
abbrev pub alone :
    (P : List Cpu → List Flusher → List Writeback → Type 0) (cpus : List Cpu) (flushers : List Flusher) (domains : List Domain) (contexts : List Writeback)
    (entries : List TimerEntry) → Type 0
alone P cpus flushers domains contexts entries = P cpus flushers contexts

-- a law that says nothing of tasks and pages
module _ (trace : Trace) (P : List Cpu → List Flusher → List Domain → List Writeback → List TimerEntry → Type 0) where
  abbrev Says : (s : State) → Type 0
  Says s = P s.cpus s.flushers s.domains s.contexts s.timer.entries

  abbrev Goes : (s u : State) → Type 0
  Goes s u = Says s → Says u

  module _ (quietly : (cpu : ℕ) (c : Cpu) (s : State) → log_of c ≡ log_of (cpu_of cpu s) → Goes s (with_cpu cpu c s))
      (wrote : (cpu task page : ℕ) (is_fresh : Bool) (s : State) → cpu < length s.cpus → IsTaskOn trace cpu task → Goes s (log_at cpu (entry.Write task page is_fresh) s)) where
    pub over_known : KnownWrites trace Goes
    over_known cpu task inode page pages works s now =
        wrote cpu task page false (with_task task (passed_page inode page pages works (task_of task s)) s) now.there now.on

    pub over_fresh : FreshWrites trace Goes
    over_fresh cpu task inode page pages works s now h =
        let context : ℕ = context_of trace inode in
        let s1 : State = with_task task (passed_page inode page pages works (task_of task s)) s in
        let c : Cpu = counted_cpu cpu task context s1 in
        let u : State = count_page cpu task context (with_event (event.Dirty page) page s1) in
        let v : State = log_at cpu (entry.Write task page true) u in
        let items : List Todo = owed_to (pos 1) context (group_of trace context) (todo.Step (step.Mark inode)) in
        quietly cpu (do_next items (cpu_of cpu v)) v refl
        (wrote cpu task page true u (omega (arith, now.there, length-set s.cpus cpu c)) now.on (quietly cpu c s refl h))

-- ---- the timer moves

-- a law that says nothing of the timer and of domains
module _ (trace : Trace) (P : List Cpu → List Flusher → List Writeback → Type 0) (s0 : State) (orders : List Stretch) (rotation : Option Actor) (ts : List TimerTodo) where
  abbrev Stands : (s : State) → Type 0
  Stands s = P s.cpus s.flushers s.contexts

  abbrev m : State
  m = with_timer (record s0.timer { todo = ts }) (turned orders rotation s0)

  over_load : (d : ℕ) → Stands s0 → Stands (load trace d m)
  over_load zero h = h
  over_load (suc c) h = h

  pub over_step : (x : TimerStep) → Stands s0 → Stands (make_timer_step trace x m)
  unfolding make_timer_step
  over_step (timer_step.Count d) h = over_load d h
  over_step (timer_step.Peak d) h = h
  over_step (timer_step.Unseal d) h = h
  over_step (timer_step.Thresh d) h = h
  over_step (timer_step.Publish d) h = h

  pub over_move : (x : TimerSilent) → Stands s0 → Stands (make_timer_move x m)
  unfolding make_timer_move
  over_move (timer_silent.Period d) h =
      either Stands (is_time m.timer) (period_to d (periods m.timer) (after_period (domain_of d m).events (periods m.timer)) m) m
      (λ time. by_found (after_period (domain_of d m).events (periods m.timer))) (λ early. h)
    where
      by_found : (found : Option Half) → Stands (period_to d (periods m.timer) found m)
      by_found None = h
      by_found (Some events) = h
  over_move timer_silent.Rest h = h
