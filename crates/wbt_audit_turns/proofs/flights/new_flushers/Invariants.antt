use Rattle.std.proofs.Common.{◌≡◌, replicate}
use Rattle.wbt_audit_walk.proofs.Common.{new_flusher}
use Rattle.wbt_audit_turns.proofs.flights.new_flushers.Given as goal

abbrev pub invariant-loop-flusher : goal.invariant-loop-flusher
invariant-loop-flusher l = l.flushers.items ≡ replicate l._flusher new_flusher
