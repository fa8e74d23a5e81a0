use Rattle.wbt_forecast_rows.proofs.Looping.{tells_no_page}
use Rattle.wbt_forecast_rows.proofs.contexts.count_entry.Goals as goal

pub returns-in_default : goal.returns-in_default
returns-in_default c = tells_no_page c.args.trace.now c.args.entry.now c.args.tallies.now c.in_default.not-Write c.in_default.not-Done
