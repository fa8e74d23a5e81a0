use Rattle.std.proofs.Common.{rules}
use Rattle.wbt_published.proofs.Moves.{learns_keep}
use Rattle.wbt_published.proofs.Passing.{hands_whole, merges}
use Rattle.wbt_published.proofs.place.Place.join.Goals as goal

pub split_pass-whole-requires : goal.split_pass-whole-requires
split_pass-whole-requires g c = (search rules, (search rules, (search rules, hands_whole _ _)))

pub join_pass-requires : goal.join_pass-requires
join_pass-requires g c = (search rules, (search rules, ((search rules), merges _ _ _ _)))

pub load_as-requires : goal.load_as-requires
load_as-requires g c = (search rules, (search rules, (search rules, learns_keep _ _)))
