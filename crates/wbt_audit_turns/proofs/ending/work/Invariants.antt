use Rattle.std.proofs.Common.{length}
use Rattle.wbt_audit_walk.proofs.Common.{all_told, rest, told_in}
use Rattle.wbt_audit_turns.specs.Worked.{AreLeft, HaveChances}
use Rattle.wbt_audit_turns.proofs.ending.work.Given as goal

abbrev pub invariant-steps : goal.invariant-steps
invariant-steps l = record {
  pages : AreLeft l.trace l.pages (told_in (rest l.walk)) (all_told l.journal);
  chances : HaveChances l.trace l.chances (told_in (rest l.walk)) (all_told l.journal);
}

abbrev pub decreases-steps : goal.decreases-steps
decreases-steps l = length (rest l.walk)
