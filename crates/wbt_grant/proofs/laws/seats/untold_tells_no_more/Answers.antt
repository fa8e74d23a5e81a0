use Rattle.wbt_grant.proofs.Seats.{untold_tells_no_more}
use Rattle.wbt_grant.proofs.laws.seats.untold_tells_no_more.Goals as goal

pub returns : goal.returns
returns c = untold_tells_no_more
