-- The shares of the entries so far are added.
use Rattle.std.proofs.Common.{length}
use Rattle.wbt_audit_walk.proofs.Common.{all_told, rest}
use Rattle.wbt_audit_reads.specs.Sharing.{AddsSomeActs}
use Rattle.wbt_audit_reads.proofs.shares.added_by.Given as goal

abbrev pub invariant-steps : goal.invariant-steps
invariant-steps l = AddsSomeActs l.fn.places (all_told l.fn.journal) l.sums.items l.walk

abbrev pub decreases-steps : goal.decreases-steps
decreases-steps l = length (rest l.walk)
