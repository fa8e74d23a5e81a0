use Rattle.std.proofs.Common.{◌≡◌, length, List}
use Rattle.wbt_audit_walk.proofs.Common.{ToldFlusher, flushers_after, turn_fault, Goes, rest}
use Rattle.wbt_journal.specs.Verdict.{flights_fault}
use Rattle.wbt_audit_turns.proofs.flights.walk_fault.Given as goal

abbrev pub invariant-steps : goal.invariant-steps
invariant-steps l = record {
  flushers : length l.flushers ≡ length l.trace.flushers;
  goes : Goes (turn_fault l.trace) (flushers_after l.trace) (λ (s : List ToldFlusher). s ≡ l.flushers) (flights_fault l.trace l.journal) l.walk;
}

abbrev pub decreases-steps : goal.decreases-steps
decreases-steps l = length (rest l.walk)
