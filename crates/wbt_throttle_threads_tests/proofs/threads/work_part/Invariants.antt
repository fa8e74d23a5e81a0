use Rattle.std.proofs.Common.{◌≤◌}
use Rattle.wbt_table.specs.Callers.{StepsFor}
use Rattle.wbt_throttle_threads_tests.proofs.threads.work_part.Given as goal

abbrev pub invariant-loop-i : goal.invariant-loop-i
invariant-loop-i l = StepsFor l.throttle l.part.cpu l.seat × (l.cleaned ≤ l.i)
