use Rattle.wbt_forecast_rows.proofs.Looping.{found_dirty}
use Rattle.wbt_forecast_rows.proofs.contexts.count_page.Goals as goal

pub returns-else-fresh : goal.returns-else-fresh
returns-else-fresh c = λ task. found_dirty c.args.trace.now task c.args.page c.args.fresh c.args.tallies.now c.if-fresh.false
