use Rattle.std.proofs.Common.{rules}
use Rattle.wbt_published.proofs.Moves.{reads_keep}
use Rattle.wbt_published.proofs.place.Place.read.Goals as goal

pub load_as-requires : goal.load_as-requires
load_as-requires g c = (search rules, (search rules, (search rules, reads_keep _ _)))
