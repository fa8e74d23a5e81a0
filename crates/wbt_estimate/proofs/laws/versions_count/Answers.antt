use Rattle.wbt_estimate.proofs.Taking.{versions_count}
use Rattle.wbt_estimate.proofs.laws.versions_count.Goals as goal

pub returns : goal.returns
returns c = versions_count
