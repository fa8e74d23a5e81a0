use Rattle.wbt_grant.proofs.Seats.{timer_may_is_known}
use Rattle.wbt_grant.proofs.laws.seats.timer_may_is_known.Goals as goal

pub returns : goal.returns
returns c = timer_may_is_known
