use Rattle.wbt_grant.proofs.Refused.{grants_are_refused}
use Rattle.wbt_grant.proofs.laws.refused.grants_are_refused.Goals as goal

pub returns : goal.returns
returns c = grants_are_refused
