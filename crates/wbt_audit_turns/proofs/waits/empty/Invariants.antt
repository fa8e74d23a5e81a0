use Rattle.std.proofs.Common.{◌≡◌, length}
use Rattle.wbt_audit_turns.specs.Waited.{emptied}
use Rattle.wbt_audit_turns.proofs.waits.empty.Given as goal

abbrev pub invariant-loop-pair : goal.invariant-loop-pair
invariant-loop-pair l = emptied l.wheel ≡ emptied l.initial.wheel

abbrev pub decreases-loop-pair : goal.decreases-loop-pair
decreases-loop-pair l = length l.wheel.pairs
