use Rattle.std.proofs.Common.{◌≡◌, ◌-◌, ◌<◌, ◌≤◌, length}
use Rattle.wbt_replay_order.specs.Definition.Order as spec
use Rattle.wbt_replay_order.proofs.Common.{seen}
use Rattle.wbt_replay.proofs.ready.task_turn.Given as goal

abbrev pub invariant-loop : goal.invariant-loop
invariant-loop l = record {
  same : spec.task_turn l.job l.at.tasks (seen l.machine) (length l.at.tasks - l.counter) l.place
      ≡ spec.task_turn l.job l.at.tasks (seen l.machine) (length l.at.tasks) l.at.next_task;
  there : 1 ≤ length l.at.tasks → l.place < length l.at.tasks;
}
