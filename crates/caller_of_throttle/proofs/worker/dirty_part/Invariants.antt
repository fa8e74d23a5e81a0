use Rattle.caller_of_throttle.specs.Work.{Worked}
use Rattle.caller_of_throttle.proofs.worker.dirty_part.Given as goal

abbrev pub invariant-loop-i : goal.invariant-loop-i
invariant-loop-i g l = Worked l.throttle l.part.cpu l.fn.seat l.seat
