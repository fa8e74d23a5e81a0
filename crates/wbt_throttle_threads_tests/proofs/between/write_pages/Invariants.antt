use Rattle.wbt_table.specs.Callers.{StepsFor}
use Rattle.wbt_throttle_threads_tests.proofs.between.write_pages.Given as goal

abbrev pub invariant-loop-page : goal.invariant-loop-page
invariant-loop-page l = StepsFor l.throttle 0 l.seat
