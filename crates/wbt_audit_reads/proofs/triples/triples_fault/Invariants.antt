-- So far no read was at fault, and of what is still to come all counts are sums.
use Rattle.std.proofs.Common.{length}
use Rattle.wbt_audit_walk.proofs.Common.{CountsAreSums, folds_in, Each, all_told, triple_fault, triples_after, Goes, rest}
use Rattle.wbt_journal.specs.Verdict.{triples_fault}
use Rattle.wbt_audit_reads.specs.Reading.{KeepsTriples}
use Rattle.wbt_audit_reads.proofs.triples.triples_fault.Given as goal

abbrev pub invariant-steps : goal.invariant-steps
invariant-steps l = record {
  goes : Goes (triple_fault l.fn.journal.timer) triples_after (KeepsTriples l.fn.trace l.fn.journal.timer l.triples) (triples_fault l.fn.journal) l.walk;
  sums : Each (CountsAreSums l.fn.trace (folds_in (all_told l.fn.journal))) (rest l.walk);
}

abbrev pub decreases-steps : goal.decreases-steps
decreases-steps l = length (rest l.walk)
