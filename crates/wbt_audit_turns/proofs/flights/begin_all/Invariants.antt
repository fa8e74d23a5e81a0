use Rattle.std.proofs.Common.{◌≡◌, ◌++◌, map, take, drop}
use Rattle.wbt_audit_walk.proofs.Common.{ToldFlusher, new_flusher}
use Rattle.wbt_audit_turns.proofs.flights.begin_all.Given as goal

abbrev pub invariant-loop-flusher : goal.invariant-loop-flusher
invariant-loop-flusher l =
    l.flushers ≡ map (λ (_flusher : ToldFlusher). new_flusher) (take l.flusher-index l.initial.flushers) ++ drop l.flusher-index l.initial.flushers
