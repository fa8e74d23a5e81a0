-- So far no entry was at fault.
use Rattle.wbt_audit_walk.proofs.Common.{opened_at}
use Rattle.wbt_audit_reads.specs.Timing.{Goes}
use Rattle.wbt_audit_reads.proofs.timer.timers_fault.Given as goal

abbrev pub invariant-entries : goal.invariant-entries
invariant-entries l = Goes l.fn.trace (opened_at l.timer) l.timer l.place l.lines
