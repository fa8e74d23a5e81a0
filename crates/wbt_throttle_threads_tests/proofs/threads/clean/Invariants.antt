use Rattle.std.proofs.Common.{◌<◌}
use Rattle.wbt_table.specs.Layout.{setting}
use Rattle.wbt_table.specs.Callers.{StepsFor}
use Rattle.wbt_throttle_threads_tests.proofs.threads.clean.Given as goal

abbrev pub invariant-loop-missed : goal.invariant-loop-missed
invariant-loop-missed g l = StepsFor l.throttle l.cpu l.seat × (l.page < (setting l.throttle.layout).pages)
