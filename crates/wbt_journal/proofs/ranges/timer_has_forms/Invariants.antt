use Rattle.wbt_journal.specs.Ranges.{TimedHasForm}
use Rattle.wbt_journal.proofs.Ranging.{SoFar}
use Rattle.wbt_journal.proofs.ranges.timer_has_forms.Given as goal

abbrev pub invariant-loop-entry : goal.invariant-loop-entry
invariant-loop-entry l = SoFar TimedHasForm l.timer l.entry-index
