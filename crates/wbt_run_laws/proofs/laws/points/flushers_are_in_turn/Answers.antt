use Rattle.wbt_run_laws.proofs.Owning.{flushers_in_turn}
use Rattle.wbt_run_laws.proofs.laws.points.flushers_are_in_turn.Goals as goal

pub returns : goal.returns
returns c = flushers_in_turn
