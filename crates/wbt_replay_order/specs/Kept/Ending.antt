-- What a run still has to do, as one sum that falls with every move, and what is kept for it and for the ending. Each step that may still be made is
-- worth as much as what it may leave to be done without steps.
use Rattle.std.specs.Prelude.{◌≡◌, ℕ, ◌+◌, ◌-◌, ◌*◌, ◌<◌, ◌≤◌, Bool, true, false, if◌then◌else◌, ◌==◌, nat_lt, List, [], ◌∷◌, length, get_or, sum_by, count_by, Option, Some, None}
use Rattle.wbt_journal.specs.Machine.{domains}
use Rattle.wbt_journal.specs.declared.step.StepEntry.{StepEntry}
use Rattle.wbt_trace.specs.declared.trace.Trace.{Trace}
use Rattle.wbt_replay_moves.specs.Definition.Check.{writer_of}
use Rattle.wbt_replay_moves.specs.Definition.State.{State, no_task, no_cpu, cpu_of}
use Rattle.wbt_replay_moves.specs.Definition.Writer.{has_nothing}
use Rattle.wbt_replay_moves.specs.declared.state.Actor.{Actor}
use Rattle.wbt_replay_moves.specs.declared.state.Cpu.{Cpu}
use Rattle.wbt_replay_moves.specs.declared.state.Flusher.{Flusher}
use Rattle.wbt_replay_moves.specs.declared.state.ReplayPhase.{ReplayPhase}
use Rattle.wbt_replay_moves.specs.declared.state.ReplayPhase.TheVariants as phase
use Rattle.wbt_replay_moves.specs.declared.state.ReplayTask.{ReplayTask}
use Rattle.wbt_replay_moves.specs.declared.state.Timer.{Timer}
use Rattle.wbt_replay_moves.specs.declared.state.Whose.{Whose}
use Rattle.wbt_replay_moves.specs.declared.state.Whose.TheVariants as whose
use Rattle.wbt_replay_moves.specs.declared.todo.Silent.{Silent}
use Rattle.wbt_replay_moves.specs.declared.todo.Silent.TheVariants as silent
use Rattle.wbt_replay_moves.specs.declared.todo.Step.{Step}
use Rattle.wbt_replay_moves.specs.declared.todo.Step.TheVariants as step
use Rattle.wbt_replay_moves.specs.declared.todo.TimerSilent.TheVariants as timer_silent
use Rattle.wbt_replay_moves.specs.declared.todo.TimerTodo.{TimerTodo}
use Rattle.wbt_replay_moves.specs.declared.todo.TimerTodo.TheVariants as timer_todo
use Rattle.wbt_replay_moves.specs.declared.todo.Todo.{Todo}
use Rattle.wbt_replay_moves.specs.declared.todo.Todo.TheVariants as todo
use Rattle.wbt_replay_order.specs.Definition.Order.{todo_ahead, ahead_of, is_halted}
use Rattle.wbt_replay_order.specs.declared.chance.Ahead.TheVariants as ahead
use Rattle.wbt_replay_order.specs.Claims.Ending.{is_made_by, is_over, may_step}

-- ---- turns

-- a silent move, before moves that cost so much, with what it may leave to be done. The end of a task that has nothing left is
-- paid by the task.
abbrev pub silent_cost : (nothing : Bool) (item : Silent) (behind : ℕ) → ℕ
silent_cost nothing silent.Decide behind = 5 + behind
silent_cost nothing silent.End behind = if nothing then 0 else 2 + behind
silent_cost nothing (silent.Estimate context) behind = 1 + behind
silent_cost nothing (silent.Weigh context) behind = 1 + behind
silent_cost nothing silent.Test behind = 3 + behind
silent_cost nothing silent.Close behind = 4 + behind
silent_cost nothing silent.HandOver behind = 3 + behind
silent_cost nothing silent.Land behind = 3 + behind

-- what a turn does up to its next step; where it is over, another one can begin
abbrev pub ahead_cost : (nothing : Bool) (todos : List Todo) → ℕ
ahead_cost nothing [] = 1
ahead_cost nothing (todo.Step step ∷ more) = 0
ahead_cost nothing (todo.Silent item ∷ more) = silent_cost nothing item (ahead_cost nothing more)

-- the silent moves that a step may put down itself
abbrev pub step_cost : (item : Step) → ℕ
step_cost step.Dirty = 0
step_cost (step.Add counter change) = 0
step_cost (step.Fold counter) = 0
step_cost (step.Clear counter) = 0
step_cost (step.Mark inode) = 0
step_cost (step.First domain) = 0
step_cost (step.Middle domain) = 0
step_cost (step.Limits domain) = 0
step_cost (step.Count counter) = 0
step_cost step.Unmark = 0
step_cost step.Look = 4
step_cost (step.Claim word) = 4
step_cost step.Complete = 3

-- Behind a decision a turn has little left.
abbrev pub SilentPaid : (item : Silent) (behind : ℕ) → Type 0
SilentPaid silent.Decide behind = behind ≤ 3
SilentPaid other behind = Unit {0}

-- Each step of a turn pays for what comes before the next one.
abbrev pub StepsPay : (todos : List Todo) → Type 0
StepsPay [] = Unit {0}
StepsPay (todo.Step item ∷ more) = (step_cost item + ahead_cost false more ≤ 8) × StepsPay more
StepsPay (todo.Silent item ∷ more) = SilentPaid item (ahead_cost false more) × StepsPay more

-- and what comes before the first one is paid
abbrev pub IsPaid : (todos : List Todo) → Type 0
IsPaid todos = (ahead_cost false todos ≤ 8) × StepsPay todos

-- the timer's turn likewise
abbrev pub timer_ahead_cost : (todos : List TimerTodo) → ℕ
timer_ahead_cost [] = 1
timer_ahead_cost (timer_todo.Step step ∷ more) = 0
timer_ahead_cost (timer_todo.Silent (timer_silent.Period domain) ∷ more) = 1 + timer_ahead_cost more
timer_ahead_cost (timer_todo.Silent timer_silent.Rest ∷ more) = 2 + timer_ahead_cost more

-- all its silent moves
abbrev pub timer_silent_cost : (todos : List TimerTodo) → ℕ
timer_silent_cost [] = 0
timer_silent_cost (timer_todo.Step step ∷ more) = timer_silent_cost more
timer_silent_cost (timer_todo.Silent (timer_silent.Period domain) ∷ more) = 1 + timer_silent_cost more
timer_silent_cost (timer_todo.Silent timer_silent.Rest ∷ more) = 2 + timer_silent_cost more

-- ---- things

-- a moment that is still ahead
abbrev pub wait : (now until : ℕ) → ℕ
wait now until = if nat_lt now until then 1 else 0

-- whether the turn is that of a task that has nothing left to do
abbrev pub is_last : (tasks : List ReplayTask) (whose : Whose) → Bool
is_last tasks (whose.Task task) = has_nothing (get_or tasks task no_task).works (writer_of (get_or tasks task no_task)).due
is_last tasks (whose.Flusher flusher) = false

-- what a CPU's turn does up to its next step, and whether the CPU is stopped
abbrev pub cpu_cost : (tasks : List ReplayTask) (c : Cpu) → ℕ
cpu_cost tasks c = ahead_cost (is_last tasks c.turn.whose) c.todo + (if c.stopped then 0 else 1)

-- a rest that the task's pace may ask for, which the first page before it pays
abbrev pub pause_cost : (t : ReplayTask) → ℕ
pause_cost t = if t.since == 0 then 0 else 4

-- what a task still has to do: its works, the rest for its pace, its end and the rest under way
abbrev pub task_cost : (now : ℕ) (t : ReplayTask) → ℕ
task_cost now t = 4 * length t.works + pause_cost t + (if t.ended then 0 else 8 + wait now t.rest)

-- what a flusher's phase still has to do
abbrev pub phase_cost : (now : ℕ) (phase : ReplayPhase) → ℕ
phase_cost now (phase.Idle until kept) = 1 + wait now until
phase_cost now (phase.Taken inode) = 1
phase_cost now (phase.Scanning scan) = 1
phase_cost now (phase.Flying inode pages until) = 1 + wait now until
phase_cost now phase.Finished = 0

-- what a flusher still has to do
abbrev pub flusher_cost : (now : ℕ) (f : Flusher) → ℕ
flusher_cost now f = phase_cost now f.phase

-- what the timer's turn does up to its next step, and its wait
abbrev pub timer_cost : (now : ℕ) (timer : Timer) → ℕ
timer_cost now timer = timer_ahead_cost timer.todo + wait now timer.next

-- ---- the sum

-- how many steps the run may still make
abbrev pub steps_left : (s : State) → ℕ
steps_left s = s.most - length s.steps

-- tasks and flushers
abbrev pub parts_cost : (s : State) → ℕ
parts_cost s = sum_by (task_cost s.now) s.tasks + sum_by (flusher_cost s.now) s.flushers

-- CPUs
abbrev pub cpus_cost : (s : State) → ℕ
cpus_cost s = sum_by (cpu_cost s.tasks) s.cpus

-- what a run still has to do
unfoldable pub work_left : (s : State) → ℕ
work_left s =
    16 * steps_left s + (if s.spent then 0 else 1) + length s.orders + cpus_cost s + parts_cost s + timer_cost s.now s.timer

-- ---- halts

-- no more steps than the halt line allows
abbrev pub IsWithinHalt : (halt : Option ℕ) (made : ℕ) → Type 0
IsWithinHalt None made = Unit {0}
IsWithinHalt (Some most) made = made ≤ most

-- The CPU has made so many of these steps, and not too many. Where it is stopped, it had a further one to make.
pub record IsPaced (halt : Option ℕ) (steps : List StepEntry) (i : ℕ) (c : Cpu) : Type 0 where
  pub made : count_by (is_made_by i) steps ≡ c.made
  pub within : IsWithinHalt halt c.made
  pub stopped : c.stopped ≡ true → (is_halted halt c.made ≡ true) × (todo_ahead c.todo ≡ ahead.Step)

-- each CPU has made as many steps as it counts, and no more than the halt line allows
abbrev pub ArePaced : (halt : Option ℕ) (steps : List StepEntry) (cpus : List Cpu) → Type 0
ArePaced halt steps cpus = (i : ℕ) → i < length cpus → IsPaced halt steps i (get_or cpus i no_cpu)

-- ---- what is kept

-- So many steps were made, the run isn't over, and an actor has a step to make next, which no halt line keeps it from.
pub record IsSpentAfter (trace : Trace) (most : ℕ) (s : State) : Type 0 where
  pub steps : length s.steps ≡ most
  pub ongoing : is_over s ≡ false
  pub who : Actor
  pub due : ahead_of who s ≡ ahead.Step
  pub free : may_step trace who s ≡ true

-- what is kept for the ending at each moment of a run
pub record Ending (trace : Trace) (s : State) : Type 0 where
  pub paid : (i : ℕ) → IsPaid (cpu_of i s).todo
  pub timer_paid : timer_silent_cost s.timer.todo ≤ 2 + domains trace
  pub paced : ArePaced trace.halt s.steps s.cpus
  pub spent : s.spent ≡ true → IsSpentAfter trace s.most s
