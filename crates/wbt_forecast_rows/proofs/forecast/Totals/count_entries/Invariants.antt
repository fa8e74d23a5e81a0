use Rattle.std.proofs.Common.{◌≡◌, take}
use Rattle.wbt_forecast_rows.specs.Tally.{totals_after}
use Rattle.wbt_forecast_rows.proofs.forecast.Totals.count_entries.Given as goal

abbrev pub invariant-loop-entry : goal.invariant-loop-entry
invariant-loop-entry l = l.self ≡ totals_after (take l.entry-index l.entries) l.initial.self
