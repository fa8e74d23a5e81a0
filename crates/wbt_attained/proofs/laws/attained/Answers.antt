use Rattle.wbt_attained.proofs.Whole.{attained}
use Rattle.wbt_attained.proofs.laws.attained.Goals as goal

pub returns : goal.returns
returns c = attained
