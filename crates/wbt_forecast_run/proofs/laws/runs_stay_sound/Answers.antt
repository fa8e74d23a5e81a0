use Rattle.wbt_forecast_run.proofs.Runs.Letting.{runs_stay_sound}
use Rattle.wbt_forecast_run.proofs.laws.runs_stay_sound.Goals as goal

pub returns : goal.returns
returns c = runs_stay_sound
