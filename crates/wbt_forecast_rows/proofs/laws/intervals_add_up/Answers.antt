use Rattle.wbt_forecast_rows.specs.Laws.{IntervalsAddUp}
use Rattle.wbt_forecast_rows.proofs.Adding.{add_up}
use Rattle.wbt_forecast_rows.proofs.laws.intervals_add_up.Goals as goal

pub returns : goal.returns
unfolding IntervalsAddUp
returns c = add_up
