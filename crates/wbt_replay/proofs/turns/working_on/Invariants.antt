use Rattle.std.proofs.Common.{◌≡◌, ◌+◌, ◌≤◌, drop, count_by}
use Rattle.wbt_replay_order.specs.Definition.Order as spec
use Rattle.wbt_replay_order.proofs.Common.{seen}
use Rattle.wbt_replay.proofs.turns.working_on.Given as goal

abbrev pub invariant-loop-job : goal.invariant-loop-job
invariant-loop-job l = record {
  same : l.count + count_by (spec.is_working (seen l.machine)) (drop l.job-index l.jobs) ≡ count_by (spec.is_working (seen l.machine)) l.jobs;
  few : l.count ≤ l.job-index;
}
