use Rattle.std.proofs.Common.{◌≡◌, take}
use Rattle.wbt_forecast_rows.specs.Tally.{by_number, context_after}
use Rattle.wbt_forecast_rows.proofs.contexts.count_entries.Given as goal

abbrev pub invariant-loop-entry : goal.invariant-loop-entry
invariant-loop-entry l = l.tallies ≡ by_number (context_after l.trace (take l.entry-index l.entries)) 0 l.initial.tallies
