-- The versions below one are added up.
use Rattle.wbt_audit_reads.specs.Summing.{AddsSome}
use Rattle.wbt_audit_reads.proofs.sums.add_up.Given as goal

abbrev pub invariant-loop-version : goal.invariant-loop-version
invariant-loop-version l = AddsSome l.place l.version l.fn.sums l.sums
