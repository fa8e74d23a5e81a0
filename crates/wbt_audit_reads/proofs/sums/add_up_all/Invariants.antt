-- The rows below one are added up.
use Rattle.wbt_audit_reads.specs.Summing.{AddsSomeRows}
use Rattle.wbt_audit_reads.proofs.sums.add_up_all.Given as goal

abbrev pub invariant-loop-place : goal.invariant-loop-place
invariant-loop-place l = AddsSomeRows l.fn.places l.place l.fn.sums l.sums
