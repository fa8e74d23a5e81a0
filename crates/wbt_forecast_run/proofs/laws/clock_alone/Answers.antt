use Rattle.wbt_forecast_run.proofs.Runs.Clock.{clock_alone}
use Rattle.wbt_forecast_run.proofs.laws.clock_alone.Goals as goal

pub returns : goal.returns
returns c = clock_alone
