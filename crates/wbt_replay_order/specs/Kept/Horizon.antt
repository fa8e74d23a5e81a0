-- No moment of a run is too late: what is still to come would not lead past the latest one.
use Rattle.std.specs.Prelude.{ℕ, ◌+◌, ◌-◌, ◌*◌, ◌^◌, ◌≤◌, ◌==◌, if◌then◌else◌, List, [], ◌∷◌, length, get_or, sum_by, Option, None, Some}
use Rattle.wbt_trace.specs.declared.ranges.TheConstants.{MOST_COUNT}
use Rattle.wbt_trace.specs.declared.trace.Pace.{Pace}
use Rattle.wbt_replay_moves.specs.Definition.State.{State, no_task, no_flusher}
use Rattle.wbt_replay_moves.specs.declared.state.Cpu.{Cpu}
use Rattle.wbt_replay_moves.specs.declared.state.Flusher.{Flusher}
use Rattle.wbt_replay_moves.specs.declared.state.ReplayPhase.{ReplayPhase}
use Rattle.wbt_replay_moves.specs.declared.state.ReplayPhase.TheVariants as phase
use Rattle.wbt_replay_moves.specs.declared.state.Stretch.{Stretch}
use Rattle.wbt_replay_moves.specs.declared.state.Stretch.TheVariants as stretch
use Rattle.wbt_replay_moves.specs.declared.state.ReplayTask.{ReplayTask}
use Rattle.wbt_replay_moves.specs.declared.state.ReplayWork.{ReplayWork}
use Rattle.wbt_replay_moves.specs.declared.state.ReplayWork.TheVariants as work
use Rattle.wbt_replay_moves.specs.declared.todo.Silent.{Silent}
use Rattle.wbt_replay_moves.specs.declared.todo.Silent.TheVariants as silent
use Rattle.wbt_replay_moves.specs.declared.todo.TimerTodo.{TimerTodo}
use Rattle.wbt_replay_moves.specs.declared.todo.TimerTodo.TheVariants as timer_todo
use Rattle.wbt_replay_moves.specs.declared.todo.Todo.{Todo}
use Rattle.wbt_replay_moves.specs.declared.todo.Todo.TheVariants as todo

-- no moment of a run is later
abbrev pub latest : ℕ
latest = 31 * 2 ^ 57

-- no run makes more steps
abbrev pub most_ever : ℕ
most_ever = 2 ^ 40

-- by how many ticks a step, which may bring a rest for a pace nearer, may put a moment later
abbrev pub step_ticks : ℕ
step_ticks = 2 ^ 32 + MOST_COUNT

-- by how many ticks a silent move may put a moment later
abbrev pub silent_ticks : ℕ
silent_ticks = 2 ^ 31

-- the ticks of an order line
abbrev pub ticks_of : (o : Stretch) → ℕ
ticks_of (stretch.Steps actor steps) = 0
ticks_of (stretch.Tick ticks) = ticks

-- the ticks of a rest; a write has none of its own
abbrev pub rest_of : (w : ReplayWork) → ℕ
rest_of (work.Write inode page pages) = 0
rest_of (work.Rest ticks) = ticks

-- the rest for its pace that comes next, which the first page before it pays
abbrev pub pause_ticks : (pace : Option Pace) (since : ℕ) → ℕ
pause_ticks None since = 0
pause_ticks (Some pace) since = if since == 0 then 0 else pace.ticks

-- the ticks of all rests that a task still takes, with the rest for its pace that comes next
abbrev pub rests_of : (t : ReplayTask) → ℕ
rests_of t = sum_by rest_of t.works + pause_ticks t.pace t.since

-- The next silent move was paid by a step before it.
abbrev pub silent_credit : (item : Silent) → ℕ
silent_credit silent.End = 0
silent_credit silent.Decide = silent_ticks
silent_credit (silent.Estimate context) = silent_ticks
silent_credit (silent.Weigh context) = silent_ticks
silent_credit silent.Test = silent_ticks
silent_credit silent.Close = silent_ticks
silent_credit silent.HandOver = silent_ticks
silent_credit silent.Land = silent_ticks

-- what was paid for the next silent move, in ticks
abbrev pub credit_in : (todos : List Todo) → ℕ
credit_in [] = 0
credit_in (todo.Step item ∷ more) = 0
credit_in (todo.Silent item ∷ more) = silent_credit item

-- what was paid for a CPU's next silent move, in ticks
abbrev pub credit_of : (c : Cpu) → ℕ
credit_of c = credit_in c.todo

-- what was paid for the timer's next silent move, in ticks
abbrev pub timer_credit : (todos : List TimerTodo) → ℕ
timer_credit [] = 0
timer_credit (timer_todo.Step item ∷ more) = 0
timer_credit (timer_todo.Silent item ∷ more) = silent_ticks

-- by how much moments may still grow
abbrev pub reserve_in : (most steps : ℕ) (orders : List Stretch) (tasks : List ReplayTask) (cpus : List Cpu) (timer : List TimerTodo) → ℕ
reserve_in most steps orders tasks cpus timer =
    step_ticks * (most - steps) + sum_by ticks_of orders + sum_by rests_of tasks + sum_by credit_of cpus + timer_credit timer

-- by how many ticks the moments of a state may still grow
abbrev pub reserve : (s : State) → ℕ
reserve s = reserve_in s.most (length s.steps) s.orders s.tasks s.cpus s.timer.todo

-- the moment that a flusher waits for
abbrev pub until_of : (phase : ReplayPhase) → ℕ
until_of (phase.Idle until kept) = until
until_of (phase.Taken inode) = 0
until_of (phase.Scanning scan) = 0
until_of (phase.Flying inode pages until) = until
until_of phase.Finished = 0

-- With so many ticks more this moment and each that is waited for is still at most the latest.
pub record MomentsAreWithin (ticks now next : ℕ) (tasks : List ReplayTask) (flushers : List Flusher) : Type 0 where
  pub clock : now + ticks ≤ latest
  pub timer : next + ticks ≤ latest
  pub rest : (t : ℕ) → (get_or tasks t no_task).rest + ticks ≤ latest
  pub until : (f : ℕ) → until_of (get_or flushers f no_flusher).phase + ticks ≤ latest

-- what is left after the reserve, and so many ticks of a move that is under way
abbrev pub horizon : (spare : ℕ) (s : State) → Type 0
horizon spare s = MomentsAreWithin (reserve s + spare) s.now s.timer.next s.tasks s.flushers
