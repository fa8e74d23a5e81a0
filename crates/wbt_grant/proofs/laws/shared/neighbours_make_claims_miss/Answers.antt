use Rattle.wbt_grant.proofs.SharedWords.{neighbours_make_claims_miss}
use Rattle.wbt_grant.proofs.laws.shared.neighbours_make_claims_miss.Goals as goal

pub returns : goal.returns
returns c = neighbours_make_claims_miss
