use Rattle.wbt_expiry.proofs.Moving.{AreMoving, count_of}
use Rattle.wbt_expiry.proofs.moves.move_list.Given as goal

abbrev pub invariant-pairs : goal.invariant-pairs
invariant-pairs l = AreMoving l.dues l.base l.list l.initial.lists l.lists

abbrev pub decreases-pairs : goal.decreases-pairs
decreases-pairs l = count_of l.list l.lists
