use Rattle.wbt_grant.proofs.LimitSteps.{first_keeps}
use Rattle.wbt_grant.proofs.laws.limits.first_keeps.Goals as goal

pub returns : goal.returns
returns c = first_keeps
