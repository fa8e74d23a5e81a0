use Rattle.std.proofs.Common.{◌<◌}
use Rattle.wbt_table.specs.Layout.{setting}
use Rattle.wbt_table.specs.Callers.{StepsFor, HasClaimed}
use Rattle.wbt_throttle_threads_tests.proofs.returns.give_back_at_last.Given as goal

abbrev pub invariant-loop-try : goal.invariant-loop-try
invariant-loop-try l = StepsFor l.throttle l.cpu l.seat × HasClaimed l.cpu l.page l.seat × (l.page < (setting l.throttle.layout).pages)
