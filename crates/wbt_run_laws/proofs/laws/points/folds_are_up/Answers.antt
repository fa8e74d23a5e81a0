use Rattle.wbt_run_laws.proofs.Counting.{folds_up}
use Rattle.wbt_run_laws.proofs.laws.points.folds_are_up.Goals as goal

pub returns : goal.returns
returns c = folds_up
