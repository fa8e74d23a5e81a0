use Rattle.wbt_journal.proofs.Ranging.{SoFar}
use Rattle.wbt_run_beside.specs.Beside.{HasEnded}
use Rattle.wbt_run_beside.proofs.beside.all_ended.Given as goal

abbrev pub invariant-loop-worker : goal.invariant-loop-worker
invariant-loop-worker g l = SoFar HasEnded l.workers l.worker-index
