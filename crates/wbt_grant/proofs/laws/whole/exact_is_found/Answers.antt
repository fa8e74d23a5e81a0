use Rattle.wbt_grant.proofs.Whole.{exact_is_found}
use Rattle.wbt_grant.proofs.laws.whole.exact_is_found.Goals as goal

pub returns : goal.returns
returns c = exact_is_found
