use Rattle.wbt_forecast_rows.specs.Laws.{TalliesBeginAgain}
use Rattle.wbt_forecast_rows.proofs.Going.{tallies_again}
use Rattle.wbt_forecast_rows.proofs.laws.tallies_begin_again.Goals as goal

pub returns : goal.returns
unfolding TalliesBeginAgain
returns c = tallies_again
