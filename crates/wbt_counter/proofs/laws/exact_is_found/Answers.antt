use Rattle.wbt_counter.proofs.Counting.{exact_is_found}
use Rattle.wbt_counter.proofs.laws.exact_is_found.Goals as goal

pub returns : goal.returns
returns c = exact_is_found
