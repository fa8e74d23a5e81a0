use Rattle.wbt_grant.proofs.Seats.{count_is_fresh}
use Rattle.wbt_grant.proofs.laws.seats.count_is_fresh.Goals as goal

pub returns : goal.returns
returns c = count_is_fresh
