use Rattle.std.proofs.Common.{rules}
use Rattle.wbt_published.proofs.Passing.{keeps, hands_right}
use Rattle.wbt_published.proofs.place.Place.split.Goals as goal

pub split_pass-requires : goal.split_pass-requires
split_pass-requires c = (search rules, (search rules, (search rules, hands_right _ _)))

pub split_pass-requires-else-goes : goal.split_pass-requires-else-goes
split_pass-requires-else-goes c = (search rules, (search rules, (search rules, keeps _ _)))
