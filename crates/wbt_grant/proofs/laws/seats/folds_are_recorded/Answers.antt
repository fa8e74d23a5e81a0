use Rattle.wbt_grant.proofs.Seats.{folds_are_recorded}
use Rattle.wbt_grant.proofs.laws.seats.folds_are_recorded.Goals as goal

pub returns : goal.returns
returns c = folds_are_recorded
