use Rattle.std.proofs.Common.{◌≡◌, ◌++◌, length}
use Rattle.wbt_published.specs.Passes.{cell_names, known_by}
use Rattle.wbt_published.proofs.Turns.{Merged}
use Rattle.wbt_published.proofs.each.join_each.Given as goal

abbrev pub invariant-loop-other : goal.invariant-loop-other
invariant-loop-other g l = Merged (cell_names l.cells) (known_by l.initial.places.items) (known_by l.fn.others.items) l.context l.places.items × (l.yielded ++ l.other-iterator.rest.items ≡ l.fn.others.items) × (l.context ≡ length l.yielded)
