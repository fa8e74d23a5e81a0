use Rattle.wbt_forecast_rows.specs.Laws.{TotalsGoOn}
use Rattle.wbt_forecast_rows.proofs.Going.{totals_on}
use Rattle.wbt_forecast_rows.proofs.laws.totals_go_on.Goals as goal

pub returns : goal.returns
unfolding TotalsGoOn
returns c = totals_on
