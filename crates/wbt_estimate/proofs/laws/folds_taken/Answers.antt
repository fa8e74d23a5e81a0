use Rattle.wbt_estimate.proofs.Taking.{folds_taken}
use Rattle.wbt_estimate.proofs.laws.folds_taken.Goals as goal

pub returns : goal.returns
returns c = folds_taken
