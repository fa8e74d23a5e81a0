use Rattle.std.proofs.Common.{◌≡◌}
use Rattle.caller_of_throttle.specs.Machine.{writers_of}
use Rattle.caller_of_throttle.proofs.machine.writers_for.Given as goal

abbrev pub invariant-loop-writer : goal.invariant-loop-writer
invariant-loop-writer l = l.writers ≡ writers_of l.each l.writer
