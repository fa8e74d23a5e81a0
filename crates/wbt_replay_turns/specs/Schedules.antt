-- Every schedule is that of some order lines: whose step comes, one after another, and ticks of the clock between them.
use Rattle.std.specs.Prelude.{◌⊎◌, ℕ, ◌+◌, ◌<◌, ◌≤◌, List, [], ◌∷◌, length, map, All}
use Rattle.wbt_num.specs.declared.most.TheConstants.{MOST_ORDER_LINES}
use Rattle.wbt_trace.specs.Lawful.{IsCount, IsLawful}
use Rattle.wbt_trace.specs.declared.trace.Order.{Order}
use Rattle.wbt_trace.specs.declared.trace.Order.TheVariants as order
use Rattle.wbt_trace.specs.declared.trace.Trace.{Trace}
use Rattle.wbt_replay_moves.specs.declared.state.Actor.{Actor}
use Rattle.wbt_replay_moves.specs.declared.state.Actor.TheVariants as actor
use Rattle.wbt_replay_moves.specs.declared.state.Stretch.{Stretch}
use Rattle.wbt_replay_order.specs.Definition.Opening.{stretch_of}
use Rattle.wbt_replay_turns.specs.Lines.{IsMadeBy, Stops}

-- what a schedule chooses next: a step of an actor, or ticks of the clock
pub data Choice : Type 0 where
  step : (who : Actor) → Choice
  tick : (ticks : ℕ) → Choice

-- The actor is one of the trace's, and the ticks are as many as a line may tell.
abbrev pub IsChoice : (trace : Trace) (choice : Choice) → Type 0
IsChoice trace (step (actor.Cpu cpu)) = cpu < trace.cpus
IsChoice trace (step actor.Timer) = Unit {0}
IsChoice trace (tick ticks) = IsCount ticks

-- The choices are such, and as few as order lines have to be.
pub record IsSchedule (trace : Trace) (choices : List Choice) : Type 0 where
  pub each : All (IsChoice trace) choices
  pub few : length choices ≤ MOST_ORDER_LINES

-- the order line that asks for it
abbrev pub line_of : (choice : Choice) → Order
line_of (step (actor.Cpu cpu)) = order.Steps cpu 1
line_of (step actor.Timer) = order.Timer 1
line_of (tick ticks) = order.Tick ticks

-- the trace with the schedule's order lines in place of its own
abbrev pub scheduled : (trace : Trace) (choices : List Choice) → Trace
scheduled trace choices = record trace { order = map line_of choices }

-- the order lines as a run has them
abbrev pub lines_of : (trace : Trace) (choices : List Choice) → List Stretch
lines_of trace choices = map (stretch_of trace) (map line_of choices)

-- From a number on the run's steps are those of the schedule's actors, in this order, up to the first actor that stops: it can make no step
-- when its turn comes, or the run has ended.
abbrev pub MakesSteps : (trace : Trace) (choices : List Choice) (from : ℕ) → Type 0
MakesSteps trace [] from = Unit {0}
MakesSteps trace (step who ∷ more) from = Stops trace who (lines_of trace more) from ⊎ (IsMadeBy trace who from × MakesSteps trace more (from + 1))
MakesSteps trace (tick ticks ∷ more) from = MakesSteps trace more from

-- A schedule is that of a lawful trace, whose run makes its first steps so.
pub record IsShown (trace : Trace) (choices : List Choice) : Type 0 where
  pub lawful : IsLawful (scheduled trace choices)
  pub steps : MakesSteps (scheduled trace choices) choices 0

-- Each schedule is.
abbrev pub ShowsSchedules : (trace : Trace) → Type 0
ShowsSchedules trace = (choices : List Choice) → IsSchedule trace choices → IsShown trace choices
