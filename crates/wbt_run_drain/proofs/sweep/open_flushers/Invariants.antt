use Rattle.wbt_run_drain.proofs.Opened.{OpenedTo}
use Rattle.wbt_run_drain.proofs.sweep.open_flushers.Given as goal

abbrev pub invariant-loop-cpu : goal.invariant-loop-cpu
invariant-loop-cpu g l = OpenedTo l.device l.initial.sides l.sides l.cpu
