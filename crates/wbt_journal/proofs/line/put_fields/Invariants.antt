use Rattle.std.proofs.Common.{◌≡◌, ◌+◌, ◌*◌, ◌≤◌, ◌++◌, length, drop}
use Rattle.wbt_journal.specs.Line.{fields_text}
use Rattle.wbt_journal.proofs.line.put_fields.Given as goal

-- the fields from a place on are put down
abbrev pub invariant-loop-left : goal.invariant-loop-left
invariant-loop-left l = record {
  within : l.left ≤ length l.fields;
  before : l.at ≤ l.end;
  place : l.end + l.left * 41 ≤ l.at + length l.fields * 41;
  text : drop l.at l.room ≡ fields_text (drop l.left l.fields) ++ drop l.end l.fn.room;
}

abbrev pub decreases-loop-left : goal.decreases-loop-left
decreases-loop-left l = l.left
