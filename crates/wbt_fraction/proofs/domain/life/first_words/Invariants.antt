use Rattle.std.proofs.Common.{◌≡◌, ◌∷◌, replicate}
use Rattle.wbt_fraction.proofs.domain.life.first_words.Given as goal

abbrev pub invariant-loop-i : goal.invariant-loop-i
invariant-loop-i l = l.words.items ≡ 1 ∷ replicate l._i 0
