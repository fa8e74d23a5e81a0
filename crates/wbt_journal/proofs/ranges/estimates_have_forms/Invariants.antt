use Rattle.wbt_journal.specs.Ranges.{EstimateHasForm}
use Rattle.wbt_journal.proofs.Ranging.{SoFar}
use Rattle.wbt_journal.proofs.ranges.estimates_have_forms.Given as goal

abbrev pub invariant-loop-estimate : goal.invariant-loop-estimate
invariant-loop-estimate l = SoFar EstimateHasForm l.estimates l.estimate-index
