use Rattle.wbt_grant.proofs.StepWords.{fold_is_addition}
use Rattle.wbt_grant.proofs.laws.words.fold_is_addition.Goals as goal

pub returns : goal.returns
returns c = fold_is_addition
