use Rattle.wbt_run_laws.proofs.Ending.{ending_is_right}
use Rattle.wbt_run_laws.proofs.laws.points.ending_is_right.Goals as goal

pub returns : goal.returns
returns c = ending_is_right
