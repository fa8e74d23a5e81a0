use Rattle.std.proofs.Common.{◌≡◌, drop}
use Rattle.wbt_audit.specs.Audited.{unsettled_from, unsettled_task}
use Rattle.wbt_audit.proofs.unsettled.first_unsettled.Given as goal

abbrev pub invariant-loop-task : goal.invariant-loop-task
invariant-loop-task l = unsettled_from l.trace l.task (drop l.task l.trace.tasks) ≡ unsettled_task l.trace
