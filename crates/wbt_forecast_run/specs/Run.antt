-- The run that a forecast tells: the ordered run, which may make as many steps more as a replay each time that it has made all that it may.
use Rattle.std.specs.Prelude.{ℕ, zero, suc, ◌^◌, ◌&&◌, if◌then◌else◌, List}
use Rattle.wbt_trace.specs.declared.trace.Trace.{Trace}
use Rattle.wbt_forecast_rows.specs.Forecast.{forecast_of}
use Rattle.wbt_forecast_rows.specs.Text.{forecast_text}
use Rattle.wbt_forecast_rows.specs.declared.forecast.Forecast.{Forecast}
use Rattle.wbt_replay_moves.specs.Definition.Forget.{extended}
use Rattle.wbt_replay_moves.specs.Definition.State.{State}
use Rattle.wbt_replay_order.specs.Definition.Opening.{opening}
use Rattle.wbt_replay_order.specs.Definition.Order.{advance, is_ended, is_full}
use Rattle.wbt_replay_order.specs.Kept.Further.{fits_further}

-- ---- the run

-- the most moves
abbrev pub most_moves : ℕ
most_moves = 2 ^ 60

-- Where the run has made all steps that it may, as many more as a replay may have are allowed it, unless a moment could come too late by
-- them, or it would have more than 2^40.
abbrev pub let_on : (s : State) → State
let_on s = if is_full s && fits_further s then extended s else s

-- the state after the next move; a run that has ended stays as it is
abbrev pub moved : (trace : Trace) (s : State) → State
moved trace s = if is_ended s then s else advance trace (let_on s)

-- the state after so many moves
unfoldable pub state_after : (trace : Trace) (moves : ℕ) → State
state_after trace zero = opening trace
state_after trace (suc moves) = moved trace (state_after trace moves)

-- ---- its forecast

-- the forecast of the trace by intervals of so many ticks
unfoldable pub forecast : (trace : Trace) (every : ℕ) → Forecast
forecast trace every = forecast_of trace every (state_after trace) most_moves

-- its text
abbrev pub foretold : (trace : Trace) (every : ℕ) → List ℕ
foretold trace every = forecast_text (forecast trace every)
