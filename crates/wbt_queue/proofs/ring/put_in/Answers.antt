use Rattle.wbt_queue.proofs.Moves.{puts_keep, learns}
use Rattle.wbt_queue.proofs.ring.put_in.Goals as goal

pub push_as-requires-clause-rule : goal.push_as-requires-clause-rule
push_as-requires-clause-rule g c = (puts_keep _ _ _ _ c.requires.here, learns _ _)
