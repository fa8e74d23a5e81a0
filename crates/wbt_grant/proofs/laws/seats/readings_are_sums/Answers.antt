use Rattle.wbt_grant.proofs.Seats.{readings_are_sums}
use Rattle.wbt_grant.proofs.laws.seats.readings_are_sums.Goals as goal

pub returns : goal.returns
returns c = readings_are_sums
