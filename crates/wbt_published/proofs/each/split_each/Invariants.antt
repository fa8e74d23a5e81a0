use Rattle.std.proofs.Common.{◌≤◌, length}
use Rattle.std.specs.Vec.{vec_capacity}
use Rattle.wbt_published.specs.Passes.{cell_names, known_by}
use Rattle.wbt_published.proofs.Turns.{Handed}
use Rattle.wbt_published.proofs.each.split_each.Given as goal

abbrev pub invariant-loop-context : goal.invariant-loop-context
invariant-loop-context l = Handed (cell_names l.cells) l.owners l.cpu (known_by l.initial.places.items) l.context l.places.items l.new.items × (length l.cells ≤ vec_capacity l.new)
