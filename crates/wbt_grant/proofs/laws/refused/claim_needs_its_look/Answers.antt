use Rattle.wbt_grant.proofs.Refused.{claim_needs_its_look}
use Rattle.wbt_grant.proofs.laws.refused.claim_needs_its_look.Goals as goal

pub returns : goal.returns
returns c = claim_needs_its_look
