use Rattle.wbt_audit_reads.proofs.Timed.{limits_judged, if_ok}
use Rattle.wbt_audit_reads.proofs.timer.Lines.allow.Goals as goal

pub returns-in-Limits : goal.returns-in-Limits
returns-in-Limits c =
    rw c.in-Limits.is
    (if_ok c.allow_limits.result
    (limits_judged c.args.trace.now c.args.self.now c.allow_limits.new.self c.in-Limits.domain c.in-Limits.now c.in-Limits.limits) c.allow_limits.ensures)
