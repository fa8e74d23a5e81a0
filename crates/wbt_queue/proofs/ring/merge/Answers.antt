use Rattle.wbt_queue.proofs.Joins.{merges}
use Rattle.wbt_queue.proofs.ring.merge.Goals as goal

pub absorb-requires-clause-rule : goal.absorb-requires-clause-rule
absorb-requires-clause-rule c = merges _ _ _ _
