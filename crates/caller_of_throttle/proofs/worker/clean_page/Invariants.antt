use Rattle.std.proofs.Common.{◌<◌}
use Rattle.wbt_table.specs.Layout.{setting}
use Rattle.caller_of_throttle.specs.Work.{Worked}
use Rattle.caller_of_throttle.proofs.worker.clean_page.Given as goal

abbrev pub invariant-loop-try : goal.invariant-loop-try
invariant-loop-try g l = Worked l.throttle l.cpu l.fn.seat l.seat × (l.page < (setting l.throttle.layout).pages)
