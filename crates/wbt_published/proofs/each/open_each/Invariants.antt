use Rattle.std.proofs.Common.{◌≤◌}
use Rattle.std.specs.Vec.{vec_capacity}
use Rattle.wbt_published.proofs.Turns.{Made}
use Rattle.wbt_published.proofs.each.open_each.Given as goal

abbrev pub invariant-loop-context : goal.invariant-loop-context
invariant-loop-context l = Made l._context l.cells.items l.places.items × (l.contexts ≤ vec_capacity l.cells) × (l.contexts ≤ vec_capacity l.places)
