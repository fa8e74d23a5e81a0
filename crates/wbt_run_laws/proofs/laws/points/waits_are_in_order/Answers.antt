use Rattle.wbt_run_laws.proofs.Owning.{waits_in_order}
use Rattle.wbt_run_laws.proofs.laws.points.waits_are_in_order.Goals as goal

pub returns : goal.returns
returns c = waits_in_order
