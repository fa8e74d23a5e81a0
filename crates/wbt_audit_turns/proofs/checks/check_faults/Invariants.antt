-- What the audit keeps and what is still to come tell the faults of the whole.
use Rattle.std.proofs.Common.{length}
use Rattle.wbt_audit_turns.specs.Checked.{HasPassed}
use Rattle.wbt_audit_walk.proofs.Common.{rest}
use Rattle.wbt_audit_turns.proofs.checks.check_faults.Given as goal

abbrev pub invariant-steps : goal.invariant-steps
invariant-steps l = HasPassed l.fn.trace l.fn.journal l.judge l.walk

abbrev pub decreases-steps : goal.decreases-steps
decreases-steps l = length (rest l.walk)
