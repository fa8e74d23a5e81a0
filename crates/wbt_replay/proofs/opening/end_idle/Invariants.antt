use Rattle.std.proofs.Common.{◌≡◌, ◌++◌, take, drop, map}
use Rattle.wbt_replay_order.proofs.Common.{ended_idle}
use Rattle.wbt_replay.proofs.opening.end_idle.Given as goal

abbrev pub invariant-loop-task : goal.invariant-loop-task
invariant-loop-task l = l.tasks.items ≡ map ended_idle (take l.task l.initial.tasks.items) ++ drop l.task l.initial.tasks.items
