use Rattle.wbt_forecast_run.proofs.Runs.Growing.{runs_tell_in_order}
use Rattle.wbt_forecast_run.proofs.laws.runs_tell_in_order.Goals as goal

pub returns : goal.returns
returns c = runs_tell_in_order
