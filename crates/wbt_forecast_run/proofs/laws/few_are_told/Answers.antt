use Rattle.wbt_forecast_run.proofs.Runs.Few.{few_told}
use Rattle.wbt_forecast_run.proofs.laws.few_are_told.Goals as goal

pub returns : goal.returns
returns c = few_told
