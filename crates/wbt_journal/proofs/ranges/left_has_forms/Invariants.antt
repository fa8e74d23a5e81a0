use Rattle.wbt_journal.specs.Ranges.{LeftHasForm}
use Rattle.wbt_journal.proofs.Ranging.{SoFar}
use Rattle.wbt_journal.proofs.ranges.left_has_forms.Given as goal

abbrev pub invariant-loop-page : goal.invariant-loop-page
invariant-loop-page l = SoFar LeftHasForm l.left l.page-index
