use Rattle.std.proofs.Common.{◌≡◌, ◌+◌, ◌^◌, ◌++◌, take, drop}
use Rattle.wbt_journal.specs.Near.{AreNear}
use Rattle.wbt_journal.specs.Steps.{columns_after}
use Rattle.wbt_journal.proofs.columns.advance.Given as goal

abbrev pub invariant-loop-domain : goal.invariant-loop-domain
invariant-loop-domain l = record {
  written : take l.domain l.columns ++ columns_after l.homes l.domain l.step (drop l.domain l.columns) ≡ columns_after l.homes 0 l.step l.initial.columns;
  done : AreNear (l.most + 2 ^ 31) (take l.domain l.columns);
  left : AreNear l.most (drop l.domain l.columns);
}
