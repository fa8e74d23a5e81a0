-- There are as many zeros as folds so far, and one more.
use Rattle.std.proofs.Common.{◌≡◌, ◌+◌, length, take}
use Rattle.wbt_audit_reads.specs.Summing.{AreZeros}
use Rattle.wbt_audit_reads.proofs.sums.zeros_of.Given as goal

abbrev pub invariant-loop-fold : goal.invariant-loop-fold
invariant-loop-fold l = record {
  room : length l.sums ≡ l.places.domains + l.places.contexts;
  zeros : AreZeros l.places (take l.fold-index l.folds) l.sums;
}
