use Rattle.wbt_grant.proofs.StepWords.{unseal_is_addition}
use Rattle.wbt_grant.proofs.laws.words.unseal_is_addition.Goals as goal

pub returns : goal.returns
returns c = unseal_is_addition
