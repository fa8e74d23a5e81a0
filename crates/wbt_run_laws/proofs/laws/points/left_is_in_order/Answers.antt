use Rattle.wbt_run_laws.proofs.Lefts.{left_is_in_order}
use Rattle.wbt_run_laws.proofs.laws.points.left_is_in_order.Goals as goal

pub returns : goal.returns
returns c = left_is_in_order
