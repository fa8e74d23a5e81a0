use Rattle.wbt_run_laws.proofs.Deciding.{checks_right}
use Rattle.wbt_run_laws.proofs.laws.points.checks_are_right.Goals as goal

pub returns : goal.returns
returns c = checks_right
