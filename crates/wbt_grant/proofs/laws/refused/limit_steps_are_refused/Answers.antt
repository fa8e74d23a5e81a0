use Rattle.wbt_grant.proofs.Refused.{limit_steps_are_refused}
use Rattle.wbt_grant.proofs.laws.refused.limit_steps_are_refused.Goals as goal

pub returns : goal.returns
returns c = limit_steps_are_refused
