use Rattle.std.proofs.Common.{◌≡◌, take}
use Rattle.wbt_forecast_rows.specs.Tally.{by_number, task_after_entries}
use Rattle.wbt_forecast_rows.proofs.tasks.count_entries.Given as goal

abbrev pub invariant-loop-entry : goal.invariant-loop-entry
invariant-loop-entry l = l.tallies ≡ by_number (task_after_entries (take l.entry-index l.entries)) 0 l.initial.tallies
