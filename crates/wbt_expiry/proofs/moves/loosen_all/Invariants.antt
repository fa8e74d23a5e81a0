use Rattle.wbt_expiry.proofs.Moving.{AreLoosening}
use Rattle.wbt_expiry.proofs.moves.loosen_all.Given as goal

abbrev pub invariant-lists : goal.invariant-lists
invariant-lists l = AreLoosening l.list l.initial.lists l.lists
