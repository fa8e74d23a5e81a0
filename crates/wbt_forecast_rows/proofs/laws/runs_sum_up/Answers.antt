use Rattle.wbt_forecast_rows.specs.Laws.{RunsSumUp}
use Rattle.wbt_forecast_rows.proofs.Adding.{sum_up}
use Rattle.wbt_forecast_rows.proofs.laws.runs_sum_up.Goals as goal

pub returns : goal.returns
unfolding RunsSumUp
returns c = sum_up
