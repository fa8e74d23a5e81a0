use Rattle.wbt_grant.proofs.Whole.{timer_is_fresh}
use Rattle.wbt_grant.proofs.laws.whole.timer_is_fresh.Goals as goal

pub returns : goal.returns
returns c = timer_is_fresh
