-- The pass is here, as it was.
use Rattle.std.proofs.Common.{sym, subst}
use Rattle.wbt_queue.specs.Passes.{known_by, AreHere}
use Rattle.wbt_queue.proofs.Here.{here_joined}
use Rattle.wbt_queue.proofs.queues.Queues.join.Goals as goal

pub invariant_of-into : goal.invariant_of-into
invariant_of-into g c = (c.merge_each.ensures.places.1, subst AreHere (sym c.merge_each.ensures.known) (here_joined (known_by c.into.inside.places.items) (known_by c.from.inside.places.items) c.into.invariant.1))
