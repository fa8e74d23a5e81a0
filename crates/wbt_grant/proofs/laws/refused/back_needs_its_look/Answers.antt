use Rattle.wbt_grant.proofs.Refused.{back_needs_its_look}
use Rattle.wbt_grant.proofs.laws.refused.back_needs_its_look.Goals as goal

pub returns : goal.returns
returns c = back_needs_its_look
