-- The estimates of the entries so far are counted.
use Rattle.std.proofs.Common.{length}
use Rattle.wbt_audit_walk.proofs.Common.{all_told, rest}
use Rattle.wbt_audit_reads.specs.Estimating.{CountsSome}
use Rattle.wbt_audit_reads.proofs.estimates.counts_of.Given as goal

abbrev pub invariant-steps : goal.invariant-steps
invariant-steps l = CountsSome l.fn.contexts (all_told l.fn.journal) l.counts.items l.walk

abbrev pub decreases-steps : goal.decreases-steps
decreases-steps l = length (rest l.walk)
