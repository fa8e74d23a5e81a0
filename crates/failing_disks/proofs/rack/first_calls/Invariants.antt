use Rattle.std.proofs.Common.{◌≡◌}
use Rattle.failing_disks.specs.Failing.{first_writes}
use Rattle.failing_disks.proofs.rack.first_calls.Given as goal

abbrev pub invariant-loop-call : goal.invariant-loop-call
invariant-loop-call l = l.calls.items ≡ first_writes l.call
