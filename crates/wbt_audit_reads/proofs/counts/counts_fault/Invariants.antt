-- So far no check was at fault.
use Rattle.std.proofs.Common.{length}
use Rattle.wbt_audit_walk.proofs.Common.{count_fault, folds_in, versions_after, all_told, Goes, rest}
use Rattle.wbt_journal.specs.Verdict.{counts_fault}
use Rattle.wbt_audit_reads.specs.Counting.{KeepsCounts}
use Rattle.wbt_audit_reads.proofs.counts.counts_fault.Given as goal

abbrev pub invariant-steps : goal.invariant-steps
invariant-steps l =
    let all = folds_in (all_told l.fn.journal) in
    Goes (count_fault l.fn.trace all) versions_after (KeepsCounts l.fn.trace all l.counts) (counts_fault l.fn.trace l.fn.journal) l.walk

abbrev pub decreases-steps : goal.decreases-steps
decreases-steps l = length (rest l.walk)
