use Rattle.std.proofs.Common.{length}
use Rattle.wbt_audit_walk.proofs.Common.{all_told, rest, told_in}
use Rattle.wbt_audit_turns.specs.Balanced.{Tallied}
use Rattle.wbt_audit_turns.proofs.ledger.is_even.Given as goal

abbrev pub invariant-steps : goal.invariant-steps
invariant-steps l = Tallied l.tallies (told_in (rest l.walk)) (all_told l.journal)

abbrev pub decreases-steps : goal.decreases-steps
decreases-steps l = length (rest l.walk)
