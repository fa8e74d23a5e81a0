use Rattle.wbt_table.proofs.Triples.{TriplesTakenTo}
use Rattle.wbt_table.proofs.seat.Throttle.take_triples.Given as goal

abbrev pub invariant-loop-k : goal.invariant-loop-k
invariant-loop-k l = TriplesTakenTo l.fn.self.layout l.k l.cpus l.initial.into.items l.from l.into.items
