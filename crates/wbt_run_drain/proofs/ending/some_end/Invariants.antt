use Rattle.wbt_run_drain.specs.Ends.{EndsSo}
use Rattle.wbt_run_drain.proofs.Found.{SofarNone}
use Rattle.wbt_run_drain.proofs.ending.some_end.Given as goal

abbrev pub invariant-loop-side : goal.invariant-loop-side
invariant-loop-side g l = SofarNone (EndsSo l.end) l.sides l.side-index
