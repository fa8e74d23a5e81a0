use Rattle.wbt_forecast_rows.proofs.Looping.{tells_no_write}
use Rattle.wbt_forecast_rows.proofs.tasks.count_entry.Goals as goal

pub returns-in_default : goal.returns-in_default
returns-in_default c = tells_no_write c.args.entry.now c.args.tallies.now c.in_default.not-Write
