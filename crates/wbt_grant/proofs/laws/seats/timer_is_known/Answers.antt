use Rattle.wbt_grant.proofs.Seats.{timer_is_known}
use Rattle.wbt_grant.proofs.laws.seats.timer_is_known.Goals as goal

pub returns : goal.returns
returns c = timer_is_known
