use Rattle.wbt_grant.proofs.Seats.{may_is_known}
use Rattle.wbt_grant.proofs.laws.seats.may_is_known.Goals as goal

pub returns : goal.returns
returns c = may_is_known
