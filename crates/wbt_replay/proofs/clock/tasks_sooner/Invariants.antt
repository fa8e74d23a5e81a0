use Rattle.std.proofs.Common.{◌≡◌, drop, None}
use Rattle.wbt_replay_order.specs.Definition.Order as spec
use Rattle.wbt_replay.proofs.clock.tasks_sooner.Given as goal

abbrev pub invariant-loop-task : goal.invariant-loop-task
invariant-loop-task l = spec.tasks_sooner l.now l.found (drop l.task-index l.tasks) ≡ spec.tasks_sooner l.now None l.tasks
