use Rattle.wbt_grant.proofs.CounterSteps.{clear_leaves}
use Rattle.wbt_grant.proofs.laws.counters.clear_leaves.Goals as goal

pub returns : goal.returns
returns c = clear_leaves
