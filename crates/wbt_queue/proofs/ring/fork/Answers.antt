use Rattle.wbt_queue.proofs.Moves.{forks}
use Rattle.wbt_queue.proofs.ring.fork.Goals as goal

pub another-requires-clause-rule : goal.another-requires-clause-rule
another-requires-clause-rule c = forks _ _
