use Rattle.wbt_grant.proofs.Seats.{own_is_told}
use Rattle.wbt_grant.proofs.laws.seats.own_is_told.Goals as goal

pub returns : goal.returns
returns c = own_is_told
