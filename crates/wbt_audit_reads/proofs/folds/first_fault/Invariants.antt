-- So far no fold was at fault.
use Rattle.std.proofs.Common.{length}
use Rattle.wbt_audit_walk.proofs.Common.{fold_fault, folds_after, folds_in, all_told, Goes, rest}
use Rattle.wbt_audit_reads.specs.Folding.{KeepsSeen, first_fold_fault}
use Rattle.wbt_audit_reads.proofs.folds.first_fault.Given as goal

abbrev pub invariant-steps : goal.invariant-steps
invariant-steps l =
    let all = folds_in (all_told l.fn.journal) in
    Goes (fold_fault l.fn.trace all) folds_after (KeepsSeen l.fn.trace all l.seen) (first_fold_fault l.fn.trace l.fn.journal) l.walk

abbrev pub decreases-steps : goal.decreases-steps
decreases-steps l = length (rest l.walk)
