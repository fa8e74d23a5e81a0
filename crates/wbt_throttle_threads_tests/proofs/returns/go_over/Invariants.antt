use Rattle.wbt_table.specs.Callers.{StepsFor}
use Rattle.wbt_throttle_threads_tests.proofs.returns.go_over.Given as goal

abbrev pub invariant-loop-i : goal.invariant-loop-i
invariant-loop-i l = StepsFor l.throttle l.cpu l.seat
