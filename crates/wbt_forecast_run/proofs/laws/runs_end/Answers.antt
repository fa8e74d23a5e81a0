use Rattle.wbt_forecast_run.proofs.Runs.Ends.{runs_end}
use Rattle.wbt_forecast_run.proofs.laws.runs_end.Goals as goal

pub returns : goal.returns
returns c = runs_end
