use Rattle.wbt_grant.proofs.Refused.{page_steps_are_refused}
use Rattle.wbt_grant.proofs.laws.refused.page_steps_are_refused.Goals as goal

pub returns : goal.returns
returns c = page_steps_are_refused
