use Rattle.wbt_forecast_rows.specs.Laws.{TalliesBegin}
use Rattle.wbt_forecast_rows.proofs.Going.{tallies_first}
use Rattle.wbt_forecast_rows.proofs.laws.tallies_begin.Goals as goal

pub returns : goal.returns
unfolding TalliesBegin
returns c = tallies_first
