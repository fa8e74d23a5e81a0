use Rattle.wbt_forecast_run.proofs.Replayed.Alike.{as_replayed}
use Rattle.wbt_forecast_run.proofs.laws.as_replayed.Goals as goal

pub returns : goal.returns
returns c = as_replayed c.runs_sum_up.ensures
