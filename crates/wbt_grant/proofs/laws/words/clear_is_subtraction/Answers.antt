use Rattle.wbt_grant.proofs.StepWords.{clear_is_subtraction}
use Rattle.wbt_grant.proofs.laws.words.clear_is_subtraction.Goals as goal

pub returns : goal.returns
returns c = clear_is_subtraction
