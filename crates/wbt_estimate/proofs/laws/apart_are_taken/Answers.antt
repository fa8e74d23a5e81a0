use Rattle.wbt_estimate.proofs.Taking.{apart_are_taken}
use Rattle.wbt_estimate.proofs.laws.apart_are_taken.Goals as goal

pub returns : goal.returns
returns c = apart_are_taken
