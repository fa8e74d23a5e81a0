use Rattle.std.proofs.Common.{take, flat_map}
use Rattle.wbt_journal.specs.Pieces.{timer_text}
use Rattle.wbt_journal.specs.Way.{Puts, way}
use Rattle.wbt_journal.proofs.out.Out.timer_entries.Given as goal

abbrev pub invariant-loop-entry : goal.invariant-loop-entry
invariant-loop-entry g l =
    Puts (flat_map (timer_text) (take l.entry-index l.timer)) (way (g.K.Sink.held l.initial.sink) (g.K.Sink.faults l.initial.sink) l.initial.self)
    (way (g.K.Sink.held l.sink) (g.K.Sink.faults l.sink) l.self)
