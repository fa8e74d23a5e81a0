use Rattle.wbt_forecast_rows.specs.Laws.{TalliesGoOn}
use Rattle.wbt_forecast_rows.proofs.Going.{tallies_on}
use Rattle.wbt_forecast_rows.proofs.laws.tallies_go_on.Goals as goal

pub returns : goal.returns
unfolding TalliesGoOn
returns c = tallies_on
