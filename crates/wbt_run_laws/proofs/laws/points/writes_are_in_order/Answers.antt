use Rattle.wbt_run_laws.proofs.Owning.{writes_in_order}
use Rattle.wbt_run_laws.proofs.laws.points.writes_are_in_order.Goals as goal

pub returns : goal.returns
returns c = writes_in_order
