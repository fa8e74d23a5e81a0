use Rattle.wbt_forecast_run.proofs.Counts.Exact.{counts_are_told}
use Rattle.wbt_forecast_run.proofs.laws.counts_are_told.Goals as goal

pub returns : goal.returns
returns c = counts_are_told
