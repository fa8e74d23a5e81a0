use Rattle.wbt_journal.specs.Ranges.{PartHasForm}
use Rattle.wbt_journal.proofs.Ranging.{SoFar}
use Rattle.wbt_journal.proofs.ranges.parts_have_forms.Given as goal

abbrev pub invariant-loop-part : goal.invariant-loop-part
invariant-loop-part l = SoFar PartHasForm l.parts l.part-index
