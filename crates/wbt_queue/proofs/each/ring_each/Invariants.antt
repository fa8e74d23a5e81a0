use Rattle.std.proofs.Common.{◌≤◌, length}
use Rattle.std.specs.Vec.{vec_capacity}
use Rattle.wbt_queue.proofs.Turns.{Made}
use Rattle.wbt_queue.proofs.each.ring_each.Given as goal

abbrev pub invariant-loop-size : goal.invariant-loop-size
invariant-loop-size l = Made l.sizes l.size-index l.rings.items l.places.items × (length l.sizes ≤ vec_capacity l.rings) × (length l.sizes ≤ vec_capacity l.places)
