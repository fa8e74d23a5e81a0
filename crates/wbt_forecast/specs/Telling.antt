-- What a teller keeps while it tells a run: how it stands to the run's states, and what it has written.
use Rattle.std.specs.Prelude.{◌≡◌, ◌≢◌, ℕ, ◌+◌, ◌-◌, ◌^◌, ◌<◌, ◌≤◌, ◌⊎◌, true, nat_lt, if◌then◌else◌, List, [], ◌++◌, length, flat_map, get_or, Option}
use Rattle.std.specs.Io.KnownBytes.{append_known}
use Rattle.wbt_trace.specs.declared.trace.Trace.{Trace}
use Rattle.wbt_forecast_rows.specs.Forecast.{rows_of_spans, spans_from, totals_of}
use Rattle.wbt_forecast_rows.specs.Rows.{interval_of}
use Rattle.wbt_forecast_rows.specs.Small.{AreSmall}
use Rattle.wbt_forecast_rows.specs.Tally.{row_told, tallied}
use Rattle.wbt_forecast_rows.specs.Text.{end_text, row_text}
use Rattle.wbt_journal.specs.Machine.{domains}
use Rattle.wbt_replay_cut.specs.Cut.{all_of, cut, IsWithin}
use Rattle.wbt_replay_moves.specs.Definition.State.{State, no_domain}
use Rattle.wbt_replay_moves.specs.Seen.{seen}
use Rattle.wbt_replay_order.specs.Definition.Order.{is_ended}
use Rattle.wbt_replay_order.specs.Definition.Run.{bases_of, ending_of}
use Rattle.wbt_replay_order.specs.Kept.InRange.{IsInRange}
use Rattle.wbt_replay_order.specs.Kept.Round.{IsRound}
use Rattle.wbt_forecast.specs.Kept.{told_in}
use Rattle.wbt_forecast_run.specs.Run.{foretold, most_moves, state_after}
use Rattle.wbt_forecast.specs.declared.teller.Teller.{Teller}

-- ---- rows

-- the teller's tallies, bounds and things go together, and no bound is too great
pub record HasRow (teller : Teller) : Type 0 where
  pub bases : length teller.bases ≡ length teller.interval.domains
  pub domains : length (seen teller.machine).domains ≡ length teller.interval.domains
  pub contexts : length (seen teller.machine).contexts ≡ length teller.interval.contexts
  pub bounds : (domain : ℕ) → domain < length teller.interval.domains
      → get_or teller.bases domain 0 + (get_or (seen teller.machine).domains domain no_domain).peak < 2 ^ 64

-- the text of the row that the teller's tallies make, where a step was made in the interval
abbrev pub told_row : (number : ℕ) (teller : Teller) → List ℕ
told_row number teller =
    if nat_lt teller.before teller.counted
    then row_text (row_told number teller.bases (seen teller.machine).domains (seen teller.machine).contexts teller.interval)
    else []

-- ---- states

-- The interval began after the first number of moves, all that was told up to the one in the middle was counted in, and the run has made the
-- last number of moves.
pub record Keeps (trace : Trace) (first mid last : ℕ) (teller : Teller) : Type 0 where
  pub begun : first ≤ mid
  pub since : mid ≤ last
  -- the machine is at the last state, and has forgotten what was counted in
  pub machine : seen teller.machine ≡ cut (all_of (state_after trace mid)) (state_after trace last)
  pub within : IsWithin (all_of (state_after trace mid)) (state_after trace last)
  pub range : IsInRange trace (seen teller.machine)
  pub round : IsRound trace teller.round
  pub bases : teller.bases ≡ bases_of trace (domains trace)
  pub small_bases : (domain : ℕ) → get_or teller.bases domain 0 < 2 ^ 23
  -- the tallies are those of the interval up to where all was counted in, and the sums those of the run
  pub interval : teller.interval ≡ tallied trace (state_after trace first) (state_after trace mid)
  pub small : AreSmall (told_in (state_after trace mid)) teller.interval
  pub totals : teller.totals ≡ totals_of (state_after trace mid)
  pub counted : teller.counted ≡ length (state_after trace mid).steps
  pub before : teller.before ≡ length (state_after trace first).steps

-- ---- text

-- what a forecast still tells from so many moves on, in an interval that began with this state
unfoldable pub rest_text : (trace : Trace) (every : ℕ) (first : State) (moves : ℕ) → List ℕ
rest_text trace every first moves =
    flat_map row_text (rows_of_spans trace every (spans_from every (state_after trace) first moves (most_moves - moves)))
    ++ end_text (totals_of (state_after trace most_moves)) (ending_of (state_after trace most_moves))

-- What was written, what is kept to be written, and what is still told is the forecast's text.
pub record HasWritten (trace : Trace) (every first moves : ℕ) (text : List ℕ) (start held : Option (List ℕ)) : Type 0 where
  pub written : List ℕ
  pub held_is : held ≡ append_known start written
  pub told : written ++ (text ++ rest_text trace every (state_after trace first) moves) ≡ foretold trace every

-- ---- both

-- The teller has told the run up to the state after so many moves, and the sink held this when it began.
pub record IsTelling (trace : Trace) (every moves : ℕ) (start held : Option (List ℕ)) (teller : Teller) : Type 0 where
  pub few : moves ≤ most_moves
  pub first : ℕ
  pub mid : ℕ
  pub keeps : Keeps trace first mid moves teller
  pub wrote : HasWritten trace every first moves teller.text.items start held

-- the teller tells the run of the trace
pub record Tells (trace : Trace) (every : ℕ) (held : Option (List ℕ)) (teller : Teller) : Type 0 where
  pub moves : ℕ
  pub start : Option (List ℕ)
  pub telling : IsTelling trace every moves start held teller

-- It has told the run up to the state after so many moves, and the move after them has left the interval of this number.
pub record IsLeaving (trace : Trace) (every moves number : ℕ) (start held : Option (List ℕ)) (teller : Teller) : Type 0 where
  pub few : moves < most_moves
  pub first : ℕ
  pub mid : ℕ
  pub keeps : Keeps trace first mid (moves + 1) teller
  pub wrote : HasWritten trace every first moves teller.text.items start held
  pub number_is : number ≡ interval_of every (state_after trace moves)
  pub left : interval_of every (state_after trace (moves + 1)) ≢ interval_of every (state_after trace moves)

-- the teller has left the interval of this number
pub record Leaves (trace : Trace) (every number : ℕ) (held : Option (List ℕ)) (teller : Teller) : Type 0 where
  pub moves : ℕ
  pub start : Option (List ℕ)
  pub leaving : IsLeaving trace every moves number start held teller

-- the run makes no more moves
abbrev pub IsOver : (moves : ℕ) (s : State) → Type 0
IsOver moves s = (is_ended s ≡ true) ⊎ (moves ≡ most_moves)
