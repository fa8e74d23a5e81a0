use Rattle.std.proofs.Common.{◌≡◌, replicate}
use Rattle.wbt_audit_walk.proofs.Common.{MOST_FAULTS}
use Rattle.wbt_audit_turns.proofs.ending.all_chances.Given as goal

abbrev pub invariant-loop-flusher : goal.invariant-loop-flusher
invariant-loop-flusher l = l.chances.items ≡ replicate l._flusher MOST_FAULTS
