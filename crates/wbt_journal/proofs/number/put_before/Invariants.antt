use Rattle.std.proofs.Common.{◌≡◌, ◌+◌, ◌≤◌, ◌++◌, length, drop}
use Rattle.std.specs.Fmt.{decimal}
use Rattle.wbt_journal.proofs.number.put_before.Given as goal

abbrev pub invariant-loop-left : goal.invariant-loop-left
invariant-loop-left l = record {
  within : l.at ≤ l.end;
  place : l.at + length (decimal l.number) ≡ l.end + length (decimal l.left);
  text : decimal l.left ++ drop l.at l.room ≡ decimal l.number ++ drop l.end l.fn.room;
}

abbrev pub decreases-loop-left : goal.decreases-loop-left
decreases-loop-left l = l.left
