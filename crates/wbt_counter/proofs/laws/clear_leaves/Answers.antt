use Rattle.wbt_counter.proofs.Counting.{clear_leaves}
use Rattle.wbt_counter.proofs.laws.clear_leaves.Goals as goal

pub returns : goal.returns
returns c = clear_leaves
