use Rattle.std.proofs.Common.{◌≡◌, drop}
use Rattle.wbt_replay_order.proofs.Common.{after_rests}
use Rattle.wbt_forecast.proofs.ticks.after_rests.Given as goal

abbrev pub invariant-loop-task : goal.invariant-loop-task
invariant-loop-task l = after_rests l.latest (drop l.task-index l.tasks) ≡ after_rests l.moment l.tasks
