use Rattle.wbt_grant.proofs.StepWords.{add_is_addition}
use Rattle.wbt_grant.proofs.laws.words.add_is_addition.Goals as goal

pub returns : goal.returns
returns c = add_is_addition
