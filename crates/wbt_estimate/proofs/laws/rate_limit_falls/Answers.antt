use Rattle.wbt_estimate.proofs.Between.{rate_limit_falls}
use Rattle.wbt_estimate.proofs.laws.rate_limit_falls.Goals as goal

pub returns : goal.returns
returns c = rate_limit_falls
