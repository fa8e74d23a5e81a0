use Rattle.wbt_grant.proofs.Refused.{grant_needs_loads}
use Rattle.wbt_grant.proofs.laws.refused.grant_needs_loads.Goals as goal

pub returns : goal.returns
returns c = grant_needs_loads
