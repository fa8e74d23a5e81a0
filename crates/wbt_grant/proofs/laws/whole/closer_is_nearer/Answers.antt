use Rattle.wbt_grant.proofs.Heavy.{closer_is_nearer}
use Rattle.wbt_grant.proofs.laws.whole.closer_is_nearer.Goals as goal

pub returns : goal.returns
returns c = closer_is_nearer
