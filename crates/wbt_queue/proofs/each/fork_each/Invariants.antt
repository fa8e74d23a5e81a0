use Rattle.std.proofs.Common.{◌≤◌, length}
use Rattle.std.specs.Vec.{vec_capacity}
use Rattle.wbt_queue.specs.Passes.{ring_names, known_by}
use Rattle.wbt_queue.proofs.Turns.{Forked}
use Rattle.wbt_queue.proofs.each.fork_each.Given as goal

abbrev pub invariant-loop-device : goal.invariant-loop-device
invariant-loop-device l = Forked (ring_names l.rings) (known_by l.initial.places.items) l.device l.places.items l.new.items × (length l.rings ≤ vec_capacity l.new)
