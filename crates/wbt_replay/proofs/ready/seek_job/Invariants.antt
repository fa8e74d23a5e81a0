use Rattle.std.proofs.Common.{◌≡◌, ◌-◌, ◌<◌, ◌≤◌, length}
use Rattle.wbt_replay_order.specs.Definition.Order as spec
use Rattle.wbt_replay_order.proofs.Common.{seen}
use Rattle.wbt_replay.proofs.ready.seek_job.Given as goal

abbrev pub invariant-loop : goal.invariant-loop
invariant-loop l = record {
  same : spec.seek_job l.at (seen l.machine) (length l.at.jobs - l.counter) l.place
      ≡ spec.seek_job l.at (seen l.machine) (length l.at.jobs) l.at.next;
  there : 1 ≤ length l.at.jobs → l.place < length l.at.jobs;
}
