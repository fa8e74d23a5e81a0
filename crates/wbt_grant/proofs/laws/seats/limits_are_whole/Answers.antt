use Rattle.wbt_grant.proofs.Reading.{limits_are_whole}
use Rattle.wbt_grant.proofs.laws.seats.limits_are_whole.Goals as goal

pub returns : goal.returns
returns c = limits_are_whole
