use Rattle.wbt_grant.proofs.PageSteps.{back_keeps}
use Rattle.wbt_grant.proofs.laws.pages.back_keeps.Goals as goal

pub returns : goal.returns
returns c = back_keeps
