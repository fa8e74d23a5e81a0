use Rattle.std.proofs.Common.{◌≡◌}
use Rattle.wbt_fraction.proofs.Joining.{Joining}
use Rattle.wbt_fraction.proofs.several.Domains.join.Given as goal

abbrev pub invariant-loop-seat : goal.invariant-loop-seat
invariant-loop-seat l = record {
  can : (goal.iterator-loop-seat).can_next l.seat-iterator;
  finite : (goal.iterator-loop-seat).is_finite l.seat-iterator;
  joining : Joining l.i l.fn.into l.fn.from l.into-inside.seats.items l.seat-iterator.rest.items;
  domains : l.self-inside.domains.items ≡ l.fn.self;
}
