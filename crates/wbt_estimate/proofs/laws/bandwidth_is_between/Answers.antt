use Rattle.wbt_estimate.proofs.Between.{bandwidth_is_between}
use Rattle.wbt_estimate.proofs.laws.bandwidth_is_between.Goals as goal

pub returns : goal.returns
returns c = bandwidth_is_between
