use Rattle.wbt_forecast_run.proofs.Bounds.Rows.{rows_are_bounded}
use Rattle.wbt_forecast_run.proofs.laws.rows_are_bounded.Goals as goal

pub returns : goal.returns
returns c = rows_are_bounded
