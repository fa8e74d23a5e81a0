use Rattle.std.proofs.Common.{◌≡◌, drop}
use Rattle.wbt_audit_walk.proofs.Common.{opened_at}
use Rattle.wbt_audit_turns.proofs.machine.opened_at.Given as goal

abbrev pub invariant-loop-entry : goal.invariant-loop-entry
invariant-loop-entry l = opened_at (drop l.entry-index l.timer) ≡ opened_at l.timer
