use Rattle.std.proofs.Common.{◌+◌, ◌<◌, ◌≤◌, length}
use Rattle.wbt_fraction.specs.Several.{IsSeatOf, room_in}
use Rattle.shares_bench.proofs.add_all.Given as goal

abbrev pub invariant-loop-round : goal.invariant-loop-round
invariant-loop-round l = IsSeatOf l.shares l.seat × (0 < length l.shares.domains) × (l.wb < length l.shares.homes) × (4194304 ≤ room_in 0 l.seat.domains + l._round)
