use Rattle.wbt_estimate.proofs.Between.{rate_limit_is_between}
use Rattle.wbt_estimate.proofs.laws.rate_limit_is_between.Goals as goal

pub returns : goal.returns
returns c = rate_limit_is_between
