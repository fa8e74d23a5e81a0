-- What is shown of the order of a run.
use Rattle.std.specs.Prelude.{ℕ, List}
use Rattle.wbt_trace.specs.Lawful.{IsLawful}
use Rattle.wbt_trace.specs.declared.trace.Trace.{Trace}
use Rattle.wbt_replay_order.specs.Claims.Bound.{HasEnded}
use Rattle.wbt_replay_order.specs.Definition.Run.{state_at}
use Rattle.wbt_replay_order.specs.Kept.Ending.{Ending}
use Rattle.wbt_replay_order.specs.Kept.InRange.{StaysInRange}
use Rattle.wbt_replay_turns.specs.Clock.{ClockIsRight}
use Rattle.wbt_replay_turns.specs.Lines.{ObeysOrder}
use Rattle.wbt_replay_turns.specs.Rotation.{TurnsAreFair}
use Rattle.wbt_replay_turns.specs.Schedules.{Choice, IsSchedule, scheduled, IsShown}
use Rattle.wbt_replay_turns.specs.Words.{TakesTurns}

-- What is kept for the end of a run holds at each moment.
abbrev pub EndsWell : (trace : Trace) → Type 0
EndsWell trace = (moves : ℕ) → Ending trace (state_at trace moves)

-- the clock moves only where nobody has a move to make, or an order line says so
abbrev pub RunsKeepTime : Type 0
RunsKeepTime = (trace : Trace) → IsLawful trace → StaysInRange trace → HasEnded trace → ClockIsRight trace

-- the order lines of a trace are obeyed one after another
abbrev pub RunsObeyOrder : Type 0
RunsObeyOrder = (trace : Trace) → IsLawful trace → StaysInRange trace → HasEnded trace → EndsWell trace → ObeysOrder trace

-- where no order line is left the next turn is that of the first actor in the rotation that can take one
abbrev pub RunsAreFair : Type 0
RunsAreFair = (trace : Trace) → IsLawful trace → StaysInRange trace → HasEnded trace → TurnsAreFair trace

-- the steps of each CPU and of the timer are those of turns, of which the last one may be cut off
abbrev pub RunsTakeTurns : Type 0
RunsTakeTurns = (trace : Trace) → StaysInRange trace → EndsWell trace → TakesTurns trace

-- a lawful trace with a schedule as its order lines is lawful, and its run makes its first steps so
abbrev pub SchedulesAreShown : Type 0
SchedulesAreShown = (trace : Trace) → IsLawful trace → (choices : List Choice) → IsSchedule trace choices → ObeysOrder (scheduled trace choices) → IsShown trace choices
