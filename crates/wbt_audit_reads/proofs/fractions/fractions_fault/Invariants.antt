-- So far no line was at fault, and of what is still to come all counts are sums.
use Rattle.std.proofs.Common.{length}
use Rattle.wbt_audit_walk.proofs.Common.{CountsAreSums, folds_in, Each, all_told, fraction_fault, periods_after, Goes, rest}
use Rattle.wbt_journal.specs.Verdict.{fractions_fault}
use Rattle.wbt_audit_reads.specs.Fractioning.{KeepsFractions}
use Rattle.wbt_audit_reads.proofs.fractions.fractions_fault.Given as goal

abbrev pub invariant-steps : goal.invariant-steps
invariant-steps l = record {
  goes : Goes (fraction_fault l.fn.trace l.fn.journal.timer (all_told l.fn.journal)) periods_after (KeepsFractions l.fn.trace l.fn.journal.timer (all_told l.fn.journal) l.fractions) (fractions_fault l.fn.trace l.fn.journal) l.walk;
  sums : Each (CountsAreSums l.fn.trace (folds_in (all_told l.fn.journal))) (rest l.walk);
}

abbrev pub decreases-steps : goal.decreases-steps
decreases-steps l = length (rest l.walk)
