use Rattle.wbt_run_laws.proofs.Bounded.{left_is_bounded}
use Rattle.wbt_run_laws.proofs.laws.points.left_is_bounded.Goals as goal

pub returns : goal.returns
returns c = left_is_bounded
