use Rattle.std.proofs.Common.{◌≡◌, ◌+◌, ◌<◌, ◌≤◌}
use Rattle.wbt_replay_order.proofs.Common.{seek_actor, seen}
use Rattle.wbt_replay.proofs.ready.seek_actor.Given as goal

abbrev pub invariant-loop : goal.invariant-loop
invariant-loop l = record {
  same : seek_actor (seen l.machine) l.left l.place ≡ seek_actor (seen l.machine) l.count l.from;
  there : l.place < l.count;
  fewer : l.left + l.counter ≤ l.count;
}
