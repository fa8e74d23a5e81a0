-- Both passes are here, as the one was.
use Rattle.std.proofs.Common.{sym, subst}
use Rattle.wbt_queue.specs.Passes.{known_by, AreHere}
use Rattle.wbt_queue.proofs.Here.{here_left, here_new}
use Rattle.wbt_queue.proofs.queues.Queues.split.Goals as goal

pub invariant_of-result : goal.invariant_of-result
invariant_of-result g c = (c.fork_each-places.ensures.places.1.1, subst AreHere (sym c.fork_each-places.ensures.new) (here_new (known_by c.pass.inside.places.items) c.pass.invariant.1))

pub invariant_of-pass : goal.invariant_of-pass
invariant_of-pass g c = (c.fork_each-places.ensures.places.0.1, subst AreHere (sym c.fork_each-places.ensures.known) (here_left (known_by c.pass.inside.places.items) c.pass.invariant.1))
