use Rattle.std.proofs.Common.{◌≡◌, ℕ, List, ◌++◌, drop}
use Rattle.wbt_journal.specs.Line.{lines_text}
use Rattle.wbt_journal.specs.Lines.{cpu_lines}
use Rattle.wbt_journal.specs.Way.{Puts, way}
use Rattle.wbt_journal.proofs.out.Out.cpus.Given as goal

-- the text so far, and with the parts that are left it is that of all parts
abbrev pub invariant-loop-cpu : goal.invariant-loop-cpu
invariant-loop-cpu g l =
    (front : List ℕ)
    × Puts front (way (g.K.Sink.held l.initial.sink) (g.K.Sink.faults l.initial.sink) l.initial.self) (way (g.K.Sink.held l.sink) (g.K.Sink.faults l.sink) l.self)
    × (front ++ lines_text (cpu_lines l.cpu (drop l.cpu l.cpus)) ≡ lines_text (cpu_lines 0 l.cpus))
