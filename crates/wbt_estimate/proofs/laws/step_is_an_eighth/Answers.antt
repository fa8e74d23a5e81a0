use Rattle.wbt_estimate.proofs.Between.{step_is_an_eighth}
use Rattle.wbt_estimate.proofs.laws.step_is_an_eighth.Goals as goal

pub returns : goal.returns
returns c = step_is_an_eighth
