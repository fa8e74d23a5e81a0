use Rattle.std.proofs.Common.{◌≡◌, ◌+◌, drop}
use Rattle.wbt_journal.specs.Leaves.{is_page}
use Rattle.wbt_audit_walk.proofs.Common.{first_failed}
use Rattle.wbt_audit_turns.proofs.pages.left_fault.Given as goal

abbrev pub invariant-loop-place : goal.invariant-loop-place
invariant-loop-place l = first_failed (is_page l.trace) (l.line + l.place) (drop l.place l.left) ≡ first_failed (is_page l.trace) l.line l.left
