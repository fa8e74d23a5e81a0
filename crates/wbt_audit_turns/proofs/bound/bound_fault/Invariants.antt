use Rattle.std.proofs.Common.{◌≡◌, true}
use Rattle.wbt_audit_walk.proofs.Common.{is_bounded}
use Rattle.wbt_audit_turns.proofs.bound.bound_fault.Given as goal

abbrev pub invariant-loop-domain : goal.invariant-loop-domain
invariant-loop-domain l = is_bounded l.trace l.journal.timer l.journal.left l.domain ≡ true
