use Rattle.wbt_run_laws.proofs.Owning.{waits_are_own}
use Rattle.wbt_run_laws.proofs.laws.points.waits_are_own.Goals as goal

pub returns : goal.returns
returns c = waits_are_own
