use Rattle.wbt_run_drain.specs.Ends.{HasEnded}
use Rattle.wbt_run_drain.proofs.Found.{SofarEach}
use Rattle.wbt_run_drain.proofs.ending.all_ended.Given as goal

abbrev pub invariant-loop-side : goal.invariant-loop-side
invariant-loop-side g l = SofarEach HasEnded l.sides l.side-index
