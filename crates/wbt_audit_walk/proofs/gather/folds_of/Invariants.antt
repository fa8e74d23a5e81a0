-- What has been gathered, with the folds of what is still to come, is all.
use Rattle.std.proofs.Common.{◌≡◌, ◌++◌, flat_map, length}
use Rattle.wbt_audit_walk.proofs.Common.{fold_in, folds_in, all_told, rest, told_in}
use Rattle.wbt_audit_walk.proofs.gather.folds_of.Given as goal

abbrev pub invariant-steps : goal.invariant-steps
invariant-steps l = l.folds.items ++ flat_map fold_in (told_in (rest l.walk)) ≡ folds_in (all_told l.fn.journal)

abbrev pub decreases-steps : goal.decreases-steps
decreases-steps l = length (rest l.walk)
