use Rattle.std.proofs.Common.{◌≡◌, ◌+◌, ◌*◌, ◌≤◌, drop}
use Rattle.wbt_journal.specs.Leaves.{count_of}
use Rattle.wbt_audit_turns.proofs.bound.count_of.Given as goal

abbrev pub invariant-loop-one : goal.invariant-loop-one
invariant-loop-one l = record {
  counted : l.count + count_of l.trace l.domain (drop l.one-index l.left) ≡ count_of l.trace l.domain l.left;
  few : l.count ≤ 2 * l.one-index;
}
