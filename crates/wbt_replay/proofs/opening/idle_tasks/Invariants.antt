use Rattle.std.proofs.Common.{◌≡◌, [], map, take}
use Rattle.wbt_replay_order.proofs.Common.{TaskLine}
use Rattle.wbt_replay_order.specs.Kept.Opens.{task_with}
use Rattle.wbt_replay.proofs.opening.idle_tasks.Given as goal

abbrev pub invariant-loop-line : goal.invariant-loop-line
invariant-loop-line l = l.tasks.items ≡ map (λ (line : TaskLine). task_with l.trace line.pace []) (take l.line-index l.trace.tasks)
