use Rattle.std.proofs.Common.{◌≡◌, take, length}
use Rattle.wbt_replay.proofs.Ordering.Opened.{tasks_doing}
use Rattle.wbt_replay.proofs.opening.first_tasks.Given as goal

abbrev pub invariant-loop-action : goal.invariant-loop-action
invariant-loop-action l = l.tasks.items ≡ tasks_doing l.trace (take l.action-index l.trace.actions) (length l.trace.tasks)
