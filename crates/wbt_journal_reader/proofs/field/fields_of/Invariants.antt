use Rattle.std.proofs.Common.{◌≡◌, ◌++◌, List, length}
use Rattle.wbt_journal_reader.specs.Fields.{AreFields}
use Rattle.wbt_journal.specs.declared.field.Field.{Field}
use Rattle.wbt_journal_reader.proofs.field.fields_of.Given as goal

abbrev pub invariant-fields : goal.invariant-fields
invariant-fields l = record {
  on : (gs : List Field) → AreFields l.rest gs → AreFields l.text (l.found.items ++ gs);
  only : (fs : List Field) → AreFields l.text fs → (gs : List Field) × AreFields l.rest gs × (fs ≡ l.found.items ++ gs);
}

abbrev pub decreases-fields : goal.decreases-fields
decreases-fields l = length l.rest
