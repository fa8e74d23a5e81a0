-- A split that is taken back changes nothing.
use Rattle.std.proofs.Common.{◌≡◌, ℕ, Bool, true, false, cond, ◌||◌, ◌==◌, List, [], ◌∷◌, max, refl, ap₂, arith}
use Rattle.std.proofs.lemmas.List.{append-nil}
use Rattle.wbt_estimate.specs.declared.estimate.Estimate.{Estimate}
use Rattle.wbt_published.specs.declared.known.Known.{Known}
use Rattle.wbt_published.specs.Known.{left_with, handed_on, knows_both}
use Rattle.wbt_published.specs.Laws.{SplitIsUndone}

or_false : (b : Bool) → (b || false) ≡ b
or_false true = refl
or_false false = refl

either_way : (b : Bool) (all : List Estimate) → cond b all all ≡ all
either_way true all = refl
either_way false all = refl

same_greatest : (n : ℕ) → max n n ≡ n
same_greatest n = omega arith

one_undone : (goes : Bool) (known : Known) → knows_both (left_with goes known) (handed_on goes known) ≡ known
one_undone true known = λ i. record {
  publishes = known.publishes;
  all = either_way known.publishes known.all i;
  reads = append-nil known.reads i;
  seen = same_greatest known.seen i;
}
one_undone false known = λ i. record {
  publishes = or_false known.publishes i;
  all = known.all;
  reads = append-nil known.reads i;
  seen = same_greatest known.seen i;
}

pub undone : SplitIsUndone
undone [] owner [] long = refl
undone [] owner (k ∷ known) long = absurd (omega arith)
undone (o ∷ owners) owner [] long = absurd (omega arith)
undone (o ∷ owners) owner (k ∷ known) long = ap₂ (λ (x : Known) (xs : List Known). x ∷ xs) (one_undone (o == owner) k) (undone owners owner known (omega arith))
