use Rattle.std.proofs.Common.{◌≡◌, ◌<◌, length}
use Rattle.wbt_fraction.specs.Several.{IsSeatOf, room_in}
use Rattle.wbt_words_tests.proofs.fraction.begin_where.Given as goal

abbrev pub invariant-loop : goal.invariant-loop
invariant-loop g l = (goal.iterator-loop g).can_next l.iterator' × (goal.iterator-loop g).is_finite l.iterator' × IsSeatOf l.shares l.seat × (0 < length l.shares.domains)
    × (room_in 0 l.seat.domains ≡ room_in 0 l.fn.seat.domains) × (l.seat.totals ≡ l.fn.seat.totals)
