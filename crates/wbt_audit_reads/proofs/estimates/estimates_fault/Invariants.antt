-- So far no line was at fault.
use Rattle.std.proofs.Common.{length}
use Rattle.wbt_audit_walk.proofs.Common.{estimate_fault, opened_at, sight_after, all_told, Goes, rest}
use Rattle.wbt_journal.specs.Verdict.{estimates_fault}
use Rattle.wbt_audit_reads.specs.Estimating.{KeepsEstimates}
use Rattle.wbt_audit_reads.proofs.estimates.estimates_fault.Given as goal

abbrev pub invariant-steps : goal.invariant-steps
invariant-steps l =
    let all = all_told l.fn.journal in
    let opened = opened_at l.fn.journal.timer in
    Goes (estimate_fault l.fn.trace opened all) sight_after (KeepsEstimates l.fn.trace opened all l.estimates) (estimates_fault l.fn.trace l.fn.journal) l.walk

abbrev pub decreases-steps : goal.decreases-steps
decreases-steps l = length (rest l.walk)
