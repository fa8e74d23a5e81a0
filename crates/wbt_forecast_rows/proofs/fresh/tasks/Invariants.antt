use Rattle.std.proofs.Common.{◌≡◌, replicate}
use Rattle.wbt_forecast_rows.specs.Tally.{no_work}
use Rattle.wbt_forecast_rows.proofs.fresh.tasks.Given as goal

abbrev pub invariant-loop-task : goal.invariant-loop-task
invariant-loop-task l = l.tallies.items ≡ replicate l._task no_work
