use Rattle.wbt_forecast_run.proofs.Runs.Cut.{moves_are_cut}
use Rattle.wbt_forecast_run.proofs.laws.moves_are_cut.Goals as goal

pub returns : goal.returns
returns c = moves_are_cut c.advance_is_cut.ensures
