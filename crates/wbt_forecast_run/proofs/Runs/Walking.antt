-- What holds before a move and is kept by what isn't of the machine's things gives what each item makes of it.
use Rattle.std.proofs.Common.{◌≡◌, ℕ, ◌+◌, Bool, true, List, [], ◌∷◌, length, get_or, Option, refl}
use Rattle.wbt_replay_order.proofs.Common.{Trace, make_step, make_move, make_timer_step, make_timer_move, begin_turn, State, cpu_of, with_cpu, begin_timer, with_timer, Actor, Cpu, ReplayJob, Stretch, Whose, TimerTodo, Todo, after, job_at, is_full, is_halted, spend, stop, cpu_on, timer_on, go_on, begin_job, begin, advance, Silent, Step, TimerSilent, TimerStep}
use Rattle.wbt_replay_moves.specs.declared.state.Actor.TheVariants as actor
use Rattle.wbt_replay_moves.specs.declared.state.ReplayJob.TheVariants as job
use Rattle.wbt_replay_moves.specs.declared.state.Whose.TheVariants as whose
use Rattle.wbt_replay_moves.specs.declared.todo.TimerTodo.TheVariants as timer_todo
use Rattle.wbt_replay_moves.specs.declared.todo.Todo.TheVariants as todo
use Rattle.wbt_replay_order.proofs.Facts.Lists.{either}
use Rattle.wbt_replay_order.proofs.Walk.{turned, walked}

-- what belongs to the run's order, and to no thing of the machine
pub record Course : Type 0 where
  pub now : ℕ
  pub rotation : Option Actor
  pub orders : List Stretch
  pub spent : Bool
  pub stopped : ℕ
  pub working : ℕ
  pub most : ℕ

abbrev pub course_of : (s : State) → Course
course_of s = record {
  now = s.now;
  rotation = s.rotation;
  orders = s.orders;
  spent = s.spent;
  stopped = s.stopped;
  working = s.working;
  most = s.most;
}

abbrev pub with_course : (c : Course) (s : State) → State
with_course c s = record s {
  now = c.now;
  rotation = c.rotation;
  orders = c.orders;
  spent = c.spent;
  stopped = c.stopped;
  working = c.working;
  most = c.most;
}

module _ (trace : Trace) (P Q : State → Type 0) (weaker : (s : State) → P s → Q s)
    (course : (c : Course) (s : State) → P s → P (with_course c s))
    (cpu : (i : ℕ) (c : Cpu) (s : State) → c.entries ≡ (cpu_of i s).entries → c.checks ≡ (cpu_of i s).checks → P s → P (with_cpu i c s))
    (timer : (todos : List TimerTodo) (s : State) → P s → P (with_timer (record s.timer { todo = todos }) s))
    (turns : (i : ℕ) (w : Whose) (s : State) → P s → Q (begin_turn trace i w s))
    (steps : (i : ℕ) (item : Step) (s : State) → P s → Q (make_step trace i item s))
    (moves : (i : ℕ) (item : Silent) (s : State) → P s → Q (make_move trace i item s))
    (timer_turns : (s : State) → P s → Q (begin_timer s))
    (timer_steps : (item : TimerStep) (s : State) → P s → Q (make_timer_step trace item s))
    (timer_moves : (item : TimerSilent) (s : State) → P s → Q (make_timer_move item s)) where
  along : (c : Course) (s : State) → P s → Q (with_course c s)
  along c s h = weaker (with_course c s) (course c s h)

  -- ---- an actor's move

  by_cpu : (i : ℕ) (todos : List Todo) (s : State) → P s → Q (cpu_on trace i todos s)
  by_cpu i [] s h = weaker s h
  by_cpu i (todo.Step item ∷ rest) s h =
      let next : Cpu = record (cpu_of i s) { todo = rest; made = (cpu_of i s).made + 1 } in
      let stops : Cpu = record (cpu_of i s) { stopped = true } in
      either Q (is_halted trace.halt (cpu_of i s).made) (stop i s) _
      (λ halted. along (record (course_of s) { stopped = s.stopped + 1; working = (stop i s).working }) (with_cpu i stops s) (cpu i stops s refl refl h))
      (λ goes. either Q (is_full s) (spend s) (make_step trace i item (with_cpu i next s))
      (λ full. along (record (course_of s) { spent = true }) s h)
      (λ more. steps i item (with_cpu i next s) (cpu i next s refl refl h)))
  by_cpu i (todo.Silent item ∷ rest) s h =
      let next : Cpu = record (cpu_of i s) { todo = rest } in
      moves i item (with_cpu i next s) (cpu i next s refl refl h)

  by_timer : (todos : List TimerTodo) (s : State) → P s → Q (timer_on trace todos s)
  by_timer [] s h = weaker s h
  by_timer (timer_todo.Step item ∷ rest) s h =
      let next : State = with_timer (record s.timer { todo = rest }) s in
      either Q (is_full s) (spend s) (make_timer_step trace item next)
      (λ full. along (record (course_of s) { spent = true }) s h)
      (λ more. timer_steps item next (timer rest s h))
  by_timer (timer_todo.Silent item ∷ rest) s h = timer_moves item (with_timer (record s.timer { todo = rest }) s) (timer rest s h)

  goes : (a : Actor) (s : State) → P s → Q (go_on trace a s)
  goes (actor.Cpu i) s h = by_cpu i (cpu_of i s).todo s h
  goes actor.Timer s h = by_timer s.timer.todo s h

  -- ---- a turn begins

  by_job : (i place : ℕ) (j : ReplayJob) (c : Cpu) (s : State) → c.entries ≡ (cpu_of i s).entries → c.checks ≡ (cpu_of i s).checks → P s
      → Q (begin_job trace i place j c s)
  by_job i place job.Writer c s entries checks h =
      let next : Cpu = record c { next_task = after (length c.tasks) place } in
      turns i (whose.Task (get_or c.tasks place 0)) (with_cpu i next s) (cpu i next s entries checks h)
  by_job i place (job.Flusher flusher) c s entries checks h = turns i (whose.Flusher flusher) (with_cpu i c s) (cpu i c s entries checks h)

  by_begin : (a : Actor) (n place : ℕ) (s : State) → P s → Q (begin trace a n place s)
  by_begin (actor.Cpu i) n place s h =
      by_job i place (job_at n (cpu_of i s)) (record (cpu_of i s) { next = after (length (cpu_of i s).jobs) n }) s refl refl h
  by_begin actor.Timer n place s h = weaker s h

  -- ---- the run

  pub advance_walks : (s : State) → P s → Q (advance trace s)
  advance_walks s h =
      walked trace s Q (λ orders rotation now. along (record (course_of s) { orders = orders; rotation = rotation; now = now }) s h)
      (λ orders rotation a some. goes a (turned orders rotation s) (turn orders rotation)) (λ orders rotation i n place free found. by_begin (actor.Cpu i) n place (turned orders rotation s) (turn orders rotation))
      (λ orders rotation none time. timer_turns (turned orders rotation s) (turn orders rotation))
    where
      turn : (orders : List Stretch) (rotation : Option Actor) → P (turned orders rotation s)
      turn orders rotation = course (record (course_of s) { orders = orders; rotation = rotation }) s h
