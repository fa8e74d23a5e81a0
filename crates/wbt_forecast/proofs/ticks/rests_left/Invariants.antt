use Rattle.std.proofs.Common.{◌≡◌, take}
use Rattle.std.specs.List.{sum_by}
use Rattle.wbt_replay_order.proofs.Common.{rests_of}
use Rattle.wbt_forecast.proofs.ticks.rests_left.Given as goal

abbrev pub invariant-loop-task : goal.invariant-loop-task
invariant-loop-task l = record {
  same : l.tasks ≡ l.initial.tasks;
  counts : l.ticks ≡ sum_by rests_of (take l.task-index l.initial.tasks);
}
