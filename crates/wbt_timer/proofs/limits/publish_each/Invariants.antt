use Rattle.std.proofs.Common.{◌≡◌, ◌+◌, ◌≤◌, All, length}
use Rattle.std.specs.Vec.{vec_len, vec_capacity}
use Rattle.wbt_kit.proofs.Common.{MAX_LIMIT, TimerRecord, AreSeatsOf, HasTimer}
use Rattle.wbt_timer.specs.Gate.{AskedBeforePublishing}
use Rattle.wbt_timer.specs.Kinds.{HasSealed, TakesTurn}
use Rattle.wbt_timer.specs.Turn.{PublishedFirst}
use Rattle.wbt_timer.specs.declared.side.DomainSide.{DomainSide}
use Rattle.wbt_timer.proofs.limits.publish_each.Given as goal

abbrev pub invariant-loop-domain : goal.invariant-loop-domain
invariant-loop-domain g l = record {
  each : PublishedFirst l.machine l.now l.domain l.global l.initial.sides.items l.sides.items l.initial.seats l.seats l.initial.log.items l.log.items;
  asked : AskedBeforePublishing l.kit (g.G.Gate.said l.gate l.kit.throttle.layout.cpus) l.initial.seats l.seats;
  taken : HasSealed l.initial.seats → TakesTurn l.domain l.initial.seats l.seats;
  seats : AreSeatsOf l.kit l.seats;
  timer : (r : TimerRecord) × HasTimer r l.seats;
  many : length l.sides.items ≡ length l.initial.sides.items;
  hards : All (λ (s : DomainSide). s.hard ≤ MAX_LIMIT) l.sides.items;
  count : vec_len l.log ≤ vec_len l.initial.log + l.domain;
  capacity : vec_capacity l.log ≡ vec_capacity l.initial.log;
}
