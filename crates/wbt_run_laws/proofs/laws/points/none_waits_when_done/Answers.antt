use Rattle.wbt_run_laws.proofs.Owning.{none_waits_when_done}
use Rattle.wbt_run_laws.proofs.laws.points.none_waits_when_done.Goals as goal

pub returns : goal.returns
returns c = none_waits_when_done
