use Rattle.std.proofs.Common.{◌≡◌, ◌++◌, drop, filter}
use Rattle.wbt_forecast_rows.specs.Rows.{has_row}
use Rattle.wbt_forecast_rows.specs.Tally.{by_number, task_told}
use Rattle.wbt_forecast_rows.proofs.made.task_rows.Given as goal

abbrev pub invariant-loop-task : goal.invariant-loop-task
invariant-loop-task l = l.rows ++ filter has_row (by_number task_told l.task (drop l.task l.tallies)) ≡ filter has_row (by_number task_told 0 l.tallies)
