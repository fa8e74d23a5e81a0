use Rattle.std.proofs.Common.{◌≡◌, ◌-◌, ◌^◌}
use Rattle.wbt_replay_order.specs.Definition.Order as spec
use Rattle.wbt_replay_order.proofs.Common.{Sound, HasRoom, seen}
use Rattle.wbt_replay.proofs.order.run.Given as goal

abbrev pub invariant-loop : goal.invariant-loop
invariant-loop l = record {
  same : spec.run l.trace (2 ^ 40 - l.counter) (seen l.machine) ≡ spec.run l.trace (2 ^ 40) (seen l.initial.machine);
  sound : Sound l.trace (seen l.machine);
  room : HasRoom l.trace (seen l.machine);
}
