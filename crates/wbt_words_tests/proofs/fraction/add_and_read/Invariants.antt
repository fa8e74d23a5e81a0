use Rattle.std.proofs.Common.{◌+◌, ◌^◌, ◌<◌, ◌≤◌, length}
use Rattle.wbt_fraction.specs.Totals.{room_of}
use Rattle.wbt_fraction.specs.Several.{IsSeatOf, room_in}
use Rattle.wbt_words_tests.proofs.fraction.add_and_read.Given as goal

abbrev pub invariant-loop-round : goal.invariant-loop-round
invariant-loop-round g l = IsSeatOf l.shares l.seat × (0 < length l.shares.domains) × (l.wb < length l.shares.homes)
    × (400 ≤ room_in 0 l.seat.domains + l.round) × (400 ≤ room_of 0 l.seat.totals.rooms + l.round) × (l.added ≤ l.round) × (l.last.num < 2 ^ 40)
