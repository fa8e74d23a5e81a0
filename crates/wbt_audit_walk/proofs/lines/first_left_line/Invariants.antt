use Rattle.std.proofs.Common.{◌≡◌, ◌+◌, length}
use Rattle.std.specs.List.{sum_by}
use Rattle.wbt_audit_walk.proofs.Common.{item_size, rest}
use Rattle.wbt_journal.specs.Verdict as spec
use Rattle.wbt_audit_walk.proofs.lines.first_left_line.Given as goal

abbrev pub invariant-steps : goal.invariant-steps
invariant-steps l = record {
  same : l.line ≡ l.walk.line;
  behind : l.line + sum_by item_size (rest l.walk) ≡ spec.first_left_line l.journal;
}

abbrev pub decreases-steps : goal.decreases-steps
decreases-steps l = length (rest l.walk)
