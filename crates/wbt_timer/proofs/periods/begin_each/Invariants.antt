use Rattle.std.proofs.Common.{◌+◌, ◌-◌, ◌≤◌, length}
use Rattle.std.specs.Vec.{vec_len, vec_capacity}
use Rattle.wbt_kit.proofs.Common.{AreSeatsOf}
use Rattle.wbt_timer.specs.Turn.{TriedEach}
use Rattle.wbt_timer.proofs.periods.begin_each.Given as goal

abbrev pub invariant-loop-domain : goal.invariant-loop-domain
invariant-loop-domain l = record {
  each : TriedEach l.come l.domain l.initial.sides.items l.sides.items l.initial.seats l.seats l.initial.log.items l.log.items;
  seats : AreSeatsOf l.kit l.seats;
  room : vec_len l.log + (length l.initial.sides.items - l.domain) ≤ vec_capacity l.log;
}
