use Rattle.wbt_journal.specs.Ranges.{CheckHasForm}
use Rattle.wbt_journal.proofs.Ranging.{SoFar}
use Rattle.wbt_journal.proofs.ranges.checks_have_forms.Given as goal

abbrev pub invariant-loop-check : goal.invariant-loop-check
invariant-loop-check l = SoFar CheckHasForm l.checks l.check-index
