use Rattle.wbt_estimate.proofs.Taking.{taken_are_apart}
use Rattle.wbt_estimate.proofs.laws.taken_are_apart.Goals as goal

pub returns : goal.returns
returns c = taken_are_apart
