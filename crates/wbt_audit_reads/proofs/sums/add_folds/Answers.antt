use Rattle.std.proofs.Common.{subst}
use Rattle.std.proofs.lemmas.List.{take_all}
use Rattle.wbt_audit_reads.specs.Summing.{AreParts}
use Rattle.wbt_audit_reads.proofs.Summed.{parts_on}
use Rattle.wbt_audit_reads.proofs.sums.add_folds.Goals as goal

pub loop-fold-init : goal.loop-fold-init
loop-fold-init c = λ are. are

pub loop-fold-preserved : goal.loop-fold-preserved
loop-fold-preserved c = λ first.
    parts_on c.args.places c.args.folds.now c.args.folds.now _ c.loop-fold.fold-index c.loop-fold.sums c.add_fold.new.sums c.in_ok-add_fold.ensures
    c.loop-fold-test.true (c.loop-fold.invariant first)

pub returns : goal.returns
returns c = λ first.
    subst (λ folds. AreParts c.args.places c.args.folds.now folds c.loop-fold.sums) (take_all c.loop-fold.fold-index c.args.folds.now c.loop-fold-test.false)
    (c.loop-fold.invariant first)
