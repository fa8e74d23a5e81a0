use Rattle.wbt_grant.proofs.LimitSteps.{middle_keeps}
use Rattle.wbt_grant.proofs.laws.limits.middle_keeps.Goals as goal

pub returns : goal.returns
returns c = middle_keeps
