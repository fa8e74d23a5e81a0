use Rattle.wbt_grant.proofs.Refused.{counter_steps_are_refused}
use Rattle.wbt_grant.proofs.laws.refused.counter_steps_are_refused.Goals as goal

pub returns : goal.returns
returns c = counter_steps_are_refused
