-- The forecast of a run, which is given as its state after each number of moves.
use Rattle.std.specs.Prelude.{ℕ, zero, suc, ◌+◌, Bool, true, false, ◌==◌, nat_lt, List, [], ◌∷◌, length, map, filter}
use Rattle.wbt_trace.specs.declared.trace.Trace.{Trace}
use Rattle.wbt_journal.specs.Text.{fresh_of, done_of}
use Rattle.wbt_replay_moves.specs.Definition.State.{State}
use Rattle.wbt_replay_order.specs.Definition.Run.{part_of, ending_of}
use Rattle.wbt_forecast_rows.specs.Rows.{interval_of, interval_row}
use Rattle.wbt_forecast_rows.specs.declared.forecast.Forecast.{Forecast}
use Rattle.wbt_forecast_rows.specs.declared.forecast.Totals.{Totals}
use Rattle.wbt_forecast_rows.specs.declared.rows.IntervalRow.{IntervalRow}

-- ---- intervals

-- an interval of a run, by the state with which it began and the last one in it
pub record Span : Type 0 where
  pub first : State
  pub last : State

-- an interval of these states
abbrev pub span : (first last : State) → Span
span first last = record { first = first; last = last }

-- the intervals from one on that began with this state, where the run is after so many moves and has so many ahead
unfoldable pub spans_from : (every : ℕ) (state : ℕ → State) (first : State) (moves ahead : ℕ) → List Span
spans_from every state first moves zero = span first (state moves) ∷ []
spans_from every state first moves (suc ahead) =
    elim (interval_of every (state (moves + 1)) == interval_of every (state moves)) [
      | true ↦ spans_from every state first (moves + 1) ahead
      | false ↦ span first (state moves) ∷ spans_from every state (state (moves + 1)) (moves + 1) ahead
    ]

-- all intervals of so many moves in which the run was, in order
abbrev pub spans : (every : ℕ) (state : ℕ → State) (moves : ℕ) → List Span
spans every state moves = spans_from every state (state 0) 0 moves

-- a step was made in the interval
abbrev pub has_step : (interval : Span) → Bool
has_step interval = nat_lt (length interval.first.steps) (length interval.last.steps)

-- ---- the forecast

-- the row of an interval
abbrev pub row_of_span : (trace : Trace) (every : ℕ) (interval : Span) → IntervalRow
row_of_span trace every interval = interval_row trace every interval.first interval.last

-- the rows of those intervals in which a step was made
abbrev pub rows_of_spans : (trace : Trace) (every : ℕ) (intervals : List Span) → List IntervalRow
rows_of_spans trace every intervals = map (row_of_span trace every) (filter has_step intervals)

-- the sums at the end, as in a journal
abbrev pub totals_of : (s : State) → Totals
totals_of s = record { dirtied = fresh_of (map part_of s.cpus); cleaned = done_of (map part_of s.cpus) }

-- the forecast of a run that has ended after so many moves, of which no state has forgotten anything
abbrev pub forecast_of : (trace : Trace) (every : ℕ) (state : ℕ → State) (moves : ℕ) → Forecast
forecast_of trace every state moves = record {
  every = every;
  rows = rows_of_spans trace every (spans every state moves);
  totals = totals_of (state moves);
  ending = ending_of (state moves);
}
