use Rattle.std.proofs.Common.{rules}
use Rattle.wbt_published.proofs.Moves.{publishes_keep}
use Rattle.wbt_published.proofs.place.Place.publish.Goals as goal

pub swap_as-requires : goal.swap_as-requires
swap_as-requires g c = (search rules, (search rules, (search rules, publishes_keep _ _ _ (search rules) (search rules) c.requires.sound)))
