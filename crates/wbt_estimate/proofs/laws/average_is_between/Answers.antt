use Rattle.wbt_estimate.proofs.Between.{average_is_between}
use Rattle.wbt_estimate.proofs.laws.average_is_between.Goals as goal

pub returns : goal.returns
returns c = average_is_between
