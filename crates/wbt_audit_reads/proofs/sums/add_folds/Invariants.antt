-- The folds so far are added.
use Rattle.std.proofs.Common.{[], take}
use Rattle.wbt_audit_reads.specs.Summing.{AreParts}
use Rattle.wbt_audit_reads.proofs.sums.add_folds.Given as goal

abbrev pub invariant-loop-fold : goal.invariant-loop-fold
invariant-loop-fold l = AreParts l.places l.folds [] l.fn.sums → AreParts l.places l.folds (take l.fold-index l.folds) l.sums
