use Rattle.wbt_writer.proofs.Common.{Skips}
use Rattle.wbt_writer.proofs.task.action_from.Given as goal

abbrev pub invariant-loop-at : goal.invariant-loop-at
invariant-loop-at l = Skips l.task l.from l.at l.trace.actions
