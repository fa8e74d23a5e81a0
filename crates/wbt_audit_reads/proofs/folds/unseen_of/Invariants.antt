-- There are as many marks as folds so far.
use Rattle.std.proofs.Common.{◌≡◌, ◌+◌, length, take}
use Rattle.wbt_audit_reads.specs.Folding.{HaveNone}
use Rattle.wbt_audit_reads.proofs.folds.unseen_of.Given as goal

abbrev pub invariant-loop-fold : goal.invariant-loop-fold
invariant-loop-fold l = record {
  room : length l.versions ≡ l.places.domains + l.places.contexts;
  none : HaveNone l.places (take l.fold-index l.folds) l.versions;
}
