use Rattle.wbt_grant.proofs.LimitSteps.{unseal_keeps}
use Rattle.wbt_grant.proofs.laws.limits.unseal_keeps.Goals as goal

pub returns : goal.returns
returns c = unseal_keeps
