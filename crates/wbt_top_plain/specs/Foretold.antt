-- What a forecast writes.
use Rattle.std.specs.Prelude.{◌≡◌, ℕ, ◌<◌, true, List, length, Option}
use Rattle.std.specs.Io.KnownBytes.{append_known}
use Rattle.wbt_io.specs.Told.{GainsPart}
use Rattle.wbt_trace.specs.declared.trace.Trace.{Trace}
use Rattle.wbt_journal.specs.Each.{Each}
use Rattle.wbt_journal.specs.declared.journal.Ending.TheVariants as ending
use Rattle.wbt_replay_order.specs.Definition.Order.{is_ended}
use Rattle.wbt_forecast_run.specs.Claims.{AreBounded, IsAsReplayed}
use Rattle.wbt_forecast_run.specs.Run.{forecast, foretold, most_moves, state_after}
use Rattle.wbt_top_plain.specs.Top.{IsRead, IsSpent}

-- The trace's run has a further step to make after the last one that a forecast may have.
abbrev pub IsForecastSpent : (trace : Trace) (every : ℕ) → Type 0
IsForecastSpent trace every = (forecast trace every).ending ≡ ending.Spent

-- What is proved of the forecast of a trace by intervals of so many ticks.
pub record IsForecastRight (trace : Trace) (every : ℕ) : Type 0 where
  -- It tells the whole run, which has ended.
  pub ended : is_ended (state_after trace most_moves) ≡ true
  -- Each count of a domain and each greatest count is at most the bound beside it.
  pub bounded : Each AreBounded (forecast trace every).rows
  -- Where a replay of the trace isn't spent, the run is the one that the replay tells: its totals and its ending are those of that journal, and
  -- the pages, checks, pauses and ticks of all intervals add up to those that the journal tells of each task, as do pages of each context.
  pub replayed : ¬ IsSpent trace → IsAsReplayed trace

-- The bytes written are the forecast of the trace read by intervals of so many ticks, and its run isn't spent.
pub record Foretold (every : ℕ) (left before now : Option (List ℕ)) : Type 0 where
  pub trace : Trace
  pub read : IsRead trace left
  pub controlled : IsForecastRight trace every
  pub unspent : ¬ IsForecastSpent trace every
  pub wrote : now ≡ append_known before (foretold trace every)

-- The run of the trace read is spent, and the bytes written are its forecast, whole.
pub record ForetoldSpent (every : ℕ) (left before now : Option (List ℕ)) : Type 0 where
  pub trace : Trace
  pub read : IsRead trace left
  pub controlled : IsForecastRight trace every
  pub spent : IsForecastSpent trace every
  pub wrote : now ≡ append_known before (foretold trace every)

-- A part of the forecast of the trace read was written, from its first byte on and without its last.
pub record ForetoldPart (every : ℕ) (left before now : Option (List ℕ)) : Type 0 where
  pub trace : Trace
  pub read : IsRead trace left
  pub controlled : IsForecastRight trace every
  pub wrote : GainsPart before now (foretold trace every)
