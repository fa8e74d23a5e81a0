use Rattle.wbt_queue.proofs.Moves.{takes_keep, learns}
use Rattle.wbt_queue.proofs.ring.take_of.Goals as goal

pub pop_as-requires-clause-rule : goal.pop_as-requires-clause-rule
pop_as-requires-clause-rule g c = (takes_keep _ _ c.requires.here, learns _ _)
