use Rattle.std.proofs.Common.{◌≡◌, ◌++◌, length}
use Rattle.wbt_queue.specs.Passes.{ring_names, known_by}
use Rattle.wbt_queue.proofs.Turns.{Merged}
use Rattle.wbt_queue.proofs.each.merge_each.Given as goal

abbrev pub invariant-loop-other : goal.invariant-loop-other
invariant-loop-other l = Merged (ring_names l.rings) (known_by l.initial.places.items) (known_by l.fn.others.items) l.device l.places.items × (l.yielded ++ l.other-iterator.rest.items ≡ l.fn.others.items) × (l.device ≡ length l.yielded)
