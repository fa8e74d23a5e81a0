-- Who makes the steps of a run while order lines are left: the lines' actors, line after line, each as many as its line says.
use Rattle.std.specs.Prelude.{◌≡◌, ℕ, suc, ◌+◌, ◌<◌, ◌≤◌, false, List, [], ◌∷◌, length, map, slice_get, Some}
use Rattle.wbt_trace.specs.declared.trace.Trace.{Trace}
use Rattle.wbt_journal.specs.declared.step.StepEntry.{StepEntry}
use Rattle.wbt_replay_moves.specs.declared.state.Actor.{Actor}
use Rattle.wbt_replay_moves.specs.declared.state.Actor.TheVariants as actor
use Rattle.wbt_replay_moves.specs.declared.state.Stretch.{Stretch}
use Rattle.wbt_replay_moves.specs.declared.state.Stretch.TheVariants as stretch
use Rattle.wbt_replay_order.specs.Claims.Ending.{may_step}
use Rattle.wbt_replay_order.specs.Definition.Opening.{stretch_of}
use Rattle.wbt_replay_order.specs.Definition.Run.{state_at, last_state, journal_of}
use Rattle.wbt_replay_turns.specs.Able.{Can}

-- ---- who makes a step

-- the number that a step tells of its actor: a CPU's is its own, and the timer's is how many CPUs there are
abbrev pub number_of : (trace : Trace) (who : Actor) → ℕ
number_of trace (actor.Cpu cpu) = cpu
number_of trace actor.Timer = trace.cpus

-- The journal has a step k, and the actor made it.
pub record IsMadeBy (trace : Trace) (who : Actor) (k : ℕ) : Type 0 where
  pub step : StepEntry
  pub at : slice_get (journal_of trace).steps k ≡ Some step
  pub by : step.who ≡ number_of trace who

-- So many steps, from a number on, were made by the actor.
abbrev pub AreMadeBy : (trace : Trace) (who : Actor) (from many : ℕ) → Type 0
AreMadeBy trace who from many = (k : ℕ) → from ≤ k → k < from + many → IsMadeBy trace who k

-- ---- moments of a run

-- The run had made so many steps, and had these order lines left.
pub record WasAt (trace : Trace) (orders : List Stretch) (steps moves : ℕ) : Type 0 where
  pub orders_left : (state_at trace moves).orders ≡ orders
  pub steps_made : length (state_at trace moves).steps ≡ steps

-- The run ended after so many steps, with an order line left.
pub record EndedAt (trace : Trace) (steps : ℕ) : Type 0 where
  pub steps_made : length (last_state trace).steps ≡ steps
  pub some_left : 1 ≤ length (last_state trace).orders

-- The run came to these order lines after so many steps, or ended before.
pub data ComesTo (trace : Trace) (orders : List Stretch) (steps : ℕ) : Type 0 where
  was : (moves : ℕ) → WasAt trace orders steps moves → ComesTo trace orders steps
  never : EndedAt trace steps → ComesTo trace orders steps

-- Why a line's actor makes no further step after so many: at that moment it could do nothing, while the line still asked for a step; or
-- the halt line kept it from a step; or the run ended.
pub data Stops (trace : Trace) (who : Actor) (more : List Stretch) (steps : ℕ) : Type 0 where
  idle : (moves left : ℕ) → WasAt trace (stretch.Steps who (suc left) ∷ more) steps moves → ¬ Can trace (state_at trace moves) who
      → Stops trace who more steps
  halted : (moves left : ℕ) → WasAt trace (stretch.Steps who (suc left) ∷ more) steps moves → may_step trace who (state_at trace moves) ≡ false
      → Stops trace who more steps
  ended : EndedAt trace steps → Stops trace who more steps

-- ---- order lines

-- A line's actor makes so many steps, from a number on: as many as the line says, or fewer where it stops.
pub record Fulfils (trace : Trace) (who : Actor) (steps : ℕ) (more : List Stretch) (from made : ℕ) : Type 0 where
  pub within : made ≤ steps
  pub by : AreMadeBy trace who from made
  pub stops : made < steps → Stops trace who more (from + made)

-- From a number of steps on the run obeys these lines: it comes to the first one just then. The line's steps are those of its actor and of
-- nobody else, and after them it obeys the rest. A tick line takes no step. Where no line is left, anybody's step may come.
abbrev pub Obeys : (trace : Trace) (orders : List Stretch) (from : ℕ) → Type 0
Obeys trace [] from = Unit {0}
Obeys trace (stretch.Tick ticks ∷ more) from = ComesTo trace (stretch.Tick ticks ∷ more) from × Obeys trace more from
Obeys trace (stretch.Steps who steps ∷ more) from =
    ComesTo trace (stretch.Steps who steps ∷ more) from
    × ((made : ℕ) × Fulfils trace who steps more from made × Obeys trace more (from + made))

-- A move leaves the order lines as they are, or takes the first one away, or that asks for one step less: none is skipped, and none comes back.
pub data MovesOrders (before after : List Stretch) : Type 0 where
  stay : after ≡ before → MovesOrders before after
  done : (line : Stretch) (more : List Stretch) → before ≡ line ∷ more → after ≡ more → MovesOrders before after
  less : (who : Actor) (left : ℕ) (more : List Stretch) → before ≡ stretch.Steps who (suc left) ∷ more → after ≡ stretch.Steps who left ∷ more
      → MovesOrders before after

-- The run begins with the trace's order lines, moves them so, and obeys them from its first step on.
pub record ObeysOrder (trace : Trace) : Type 0 where
  pub first : (state_at trace 0).orders ≡ map (stretch_of trace) trace.order
  pub moves : (moves : ℕ) → MovesOrders (state_at trace moves).orders (state_at trace (moves + 1)).orders
  pub steps : Obeys trace (map (stretch_of trace) trace.order) 0
