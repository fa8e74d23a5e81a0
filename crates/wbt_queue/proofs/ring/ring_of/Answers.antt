use Rattle.wbt_queue.proofs.Moves.{opens}
use Rattle.wbt_queue.proofs.ring.ring_of.Goals as goal

pub ruled-requires-clause-rule : goal.ruled-requires-clause-rule
ruled-requires-clause-rule c = opens
