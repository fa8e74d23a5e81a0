use Rattle.std.proofs.Common.{take, flat_map}
use Rattle.wbt_journal.specs.Pieces.{strict_text}
use Rattle.wbt_journal.specs.Way.{Puts, way}
use Rattle.wbt_journal.proofs.out.Out.strict.Given as goal

abbrev pub invariant-loop-context : goal.invariant-loop-context
invariant-loop-context g l =
    Puts (flat_map (strict_text) (take l.context-index l.strict)) (way (g.K.Sink.held l.initial.sink) (g.K.Sink.faults l.initial.sink) l.initial.self)
    (way (g.K.Sink.held l.sink) (g.K.Sink.faults l.sink) l.self)
