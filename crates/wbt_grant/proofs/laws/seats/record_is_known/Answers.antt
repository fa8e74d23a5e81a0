use Rattle.wbt_grant.proofs.Seats.{record_is_known}
use Rattle.wbt_grant.proofs.laws.seats.record_is_known.Goals as goal

pub returns : goal.returns
returns c = record_is_known
