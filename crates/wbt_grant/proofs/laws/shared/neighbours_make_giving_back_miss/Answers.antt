use Rattle.wbt_grant.proofs.SharedWords.{neighbours_make_giving_back_miss}
use Rattle.wbt_grant.proofs.laws.shared.neighbours_make_giving_back_miss.Goals as goal

pub returns : goal.returns
returns c = neighbours_make_giving_back_miss
