use Rattle.wbt_run_laws.proofs.Estimating.{estimates_up}
use Rattle.wbt_run_laws.proofs.laws.points.estimates_are_up.Goals as goal

pub returns : goal.returns
returns c = estimates_up
