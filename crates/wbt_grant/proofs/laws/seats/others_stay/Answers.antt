use Rattle.wbt_grant.proofs.Seats.{others_stay}
use Rattle.wbt_grant.proofs.laws.seats.others_stay.Goals as goal

pub returns : goal.returns
returns c = others_stay
