use Rattle.wbt_journal.specs.Ranges.{EntryHasForm}
use Rattle.wbt_journal.proofs.Ranging.{SoFar}
use Rattle.wbt_journal.proofs.ranges.entries_have_forms.Given as goal

abbrev pub invariant-loop-entry : goal.invariant-loop-entry
invariant-loop-entry l = SoFar EntryHasForm l.entries l.entry-index
