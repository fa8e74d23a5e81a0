use Rattle.std.proofs.Common.{ℕ, ◌≡◌, ◌+◌, ◌<◌, ◌==◌, count_by, drop, get_or, length}
use Rattle.wbt_audit_walk.proofs.Common.{TaskLine}
use Rattle.wbt_audit.specs.Audited.{tasks_on}
use Rattle.wbt_audit.proofs.unsettled.count_tasks.Given as goal

abbrev pub invariant-loop-line : goal.invariant-loop-line
invariant-loop-line l =
    (cpu : ℕ) → cpu < length l.counts
    → get_or l.counts cpu 0 + count_by (λ (task : TaskLine). task.cpu == cpu) (drop l.line-index l.trace.tasks) ≡ tasks_on l.trace cpu
