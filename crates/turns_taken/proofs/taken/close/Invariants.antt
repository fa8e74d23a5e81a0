use Rattle.turns_taken.proofs.taken.close.Given as goal

abbrev pub invariant-loop-worker : goal.invariant-loop-worker
invariant-loop-worker g l = Unit {0}

abbrev pub decreases-loop-worker : goal.decreases-loop-worker
decreases-loop-worker g l = l.rest.rest.len
