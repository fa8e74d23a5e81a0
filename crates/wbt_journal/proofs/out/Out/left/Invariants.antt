use Rattle.std.proofs.Common.{take, flat_map}
use Rattle.wbt_journal.specs.Pieces.{left_text}
use Rattle.wbt_journal.specs.Way.{Puts, way}
use Rattle.wbt_journal.proofs.out.Out.left.Given as goal

abbrev pub invariant-loop-page : goal.invariant-loop-page
invariant-loop-page g l =
    Puts (flat_map (left_text) (take l.page-index l.left)) (way (g.K.Sink.held l.initial.sink) (g.K.Sink.faults l.initial.sink) l.initial.self)
    (way (g.K.Sink.held l.sink) (g.K.Sink.faults l.sink) l.self)
