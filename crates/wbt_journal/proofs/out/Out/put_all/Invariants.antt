use Rattle.std.proofs.Common.{◌≡◌, ℕ, List, ◌++◌, length}
use Rattle.wbt_journal.specs.Way.{Puts, way}
use Rattle.wbt_journal.proofs.out.Out.put_all.Given as goal

-- what was put, and with what is left it is all
abbrev pub invariant-loop-rest : goal.invariant-loop-rest
invariant-loop-rest g l =
    (front : List ℕ)
    × Puts front (way (g.K.Sink.held l.initial.sink) (g.K.Sink.faults l.initial.sink) l.initial.self) (way (g.K.Sink.held l.sink) (g.K.Sink.faults l.sink) l.self)
    × (front ++ l.rest ≡ l.bytes)

abbrev pub decreases-loop-rest : goal.decreases-loop-rest
decreases-loop-rest g l = length l.rest
