-- The first pass is here.
use Rattle.std.proofs.Common.{sym, subst}
use Rattle.wbt_queue.specs.Passes.{AreHere}
use Rattle.wbt_queue.proofs.Here.{here_first}
use Rattle.wbt_queue.proofs.queues.Queues.make.Goals as goal

pub invariant_of-result : goal.invariant_of-result
invariant_of-result c = (c.in_ok-rings-2.ensures.places.1, subst AreHere (sym c.in_ok-rings-2.ensures.known) (here_first c.args.sizes.now))
