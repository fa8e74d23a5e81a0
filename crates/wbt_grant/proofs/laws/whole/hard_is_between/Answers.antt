use Rattle.wbt_grant.proofs.Bounding.{hard_is_between}
use Rattle.wbt_grant.proofs.laws.whole.hard_is_between.Goals as goal

pub returns : goal.returns
returns c = hard_is_between
