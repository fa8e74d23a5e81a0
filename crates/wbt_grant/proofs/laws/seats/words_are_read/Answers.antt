use Rattle.wbt_grant.proofs.Seats.{words_are_read}
use Rattle.wbt_grant.proofs.laws.seats.words_are_read.Goals as goal

pub returns : goal.returns
returns c = words_are_read
