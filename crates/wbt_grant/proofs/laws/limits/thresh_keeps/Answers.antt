use Rattle.wbt_grant.proofs.LimitSteps.{thresh_keeps}
use Rattle.wbt_grant.proofs.laws.limits.thresh_keeps.Goals as goal

pub returns : goal.returns
returns c = thresh_keeps
