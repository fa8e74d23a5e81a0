use Rattle.std.proofs.Common.{arith}
use Rattle.wbt_forecast_rows.proofs.Looping.{wrote_at, wrote_past}
use Rattle.wbt_forecast_rows.proofs.tasks.count_write.Goals as goal

pub returns-then-place-tallies : goal.returns-then-place-tallies
returns-then-place-tallies c = λ page fresh. wrote_at c.args.task page fresh c.args.tallies.now _ (omega arith)

pub returns-else-place-tallies : goal.returns-else-place-tallies
returns-else-place-tallies c = λ page fresh. wrote_past c.args.task page fresh c.args.tallies.now (omega arith)
