use Rattle.std.proofs.Common.{arith}
use Rattle.wbt_forecast_rows.proofs.Looping.{checked_at, checked_past}
use Rattle.wbt_forecast_rows.proofs.tasks.count_check.Goals as goal

pub returns-then-place-tallies-clause-value : goal.returns-then-place-tallies-clause-value
returns-then-place-tallies-clause-value c = checked_at c.args.check.now c.args.tallies.now _ c.checked.result (omega arith) c.checked.ensures.value

pub returns-else-place-tallies-clause-value : goal.returns-else-place-tallies-clause-value
returns-else-place-tallies-clause-value c = checked_past c.args.check.now c.args.tallies.now (omega arith)
