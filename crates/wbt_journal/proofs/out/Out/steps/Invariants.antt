use Rattle.std.proofs.Common.{◌≡◌, ℕ, ◌+◌, ◌*◌, ◌^◌, List, ◌++◌, drop}
use Rattle.wbt_journal.specs.Line.{lines_text}
use Rattle.wbt_journal.specs.Near.{AreNear}
use Rattle.wbt_journal.specs.Steps.{step_lines}
use Rattle.wbt_journal.specs.Way.{Puts, way}
use Rattle.wbt_journal.proofs.out.Out.steps.Given as goal

-- the text so far, and with the steps that are left it is that of all steps
abbrev pub invariant-loop-i : goal.invariant-loop-i
invariant-loop-i g l =
    (front : List ℕ)
    × Puts front (way (g.K.Sink.held l.initial.sink) (g.K.Sink.faults l.initial.sink) l.initial.self) (way (g.K.Sink.held l.sink) (g.K.Sink.faults l.sink) l.self)
    × (front ++ lines_text (step_lines l.cpus l.homes (l.i + 1) l.columns (drop l.i l.steps)) ≡ lines_text (step_lines l.cpus l.homes 1 l.initial.columns l.steps))
    × AreNear (l.i * 2 ^ 31) l.columns
