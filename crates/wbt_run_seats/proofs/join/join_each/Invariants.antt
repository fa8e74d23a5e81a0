use Rattle.std.proofs.Common.{◌≡◌, ◌++◌}
use Rattle.wbt_run_seats.specs.Together.{AreTogether}
use Rattle.wbt_run_seats.proofs.join.join_each.Given as goal

abbrev pub invariant-loop-part : goal.invariant-loop-part
invariant-loop-part g l = record {
  can : (goal.iterator-loop-part g).can_next l.part-iterator;
  finite : (goal.iterator-loop-part g).is_finite l.part-iterator;
  together : AreTogether l.kit l.fn.seats l.yielded l.seats;
  come : l.yielded ++ l.part-iterator.rest.items ≡ l.fn.parts.items;
}
