-- Passes know as many contexts and devices after a split or a join as before.
use Rattle.std.proofs.Common.{◌≡◌, ℕ, suc, List, [], ◌∷◌, length, refl, ap, arith}
use Rattle.wbt_kit.proofs.Common.{Known, all_left, all_handed, all_joined}
use Rattle.wbt_queue.specs.declared.known.Known.{Known as Part}
use Rattle.wbt_queue.specs.Passes.{all_joined as all_parts}

pub left_long : (owners : List ℕ) (cpu : ℕ) (known : List Known) → length owners ≡ length known → length (all_left owners cpu known) ≡ length known
left_long [] cpu [] long = refl
left_long [] cpu (k ∷ known) long = absurd (omega arith)
left_long (o ∷ owners) cpu [] long = refl
left_long (o ∷ owners) cpu (k ∷ known) long = ap suc (left_long owners cpu known (omega arith))

pub handed_long : (owners : List ℕ) (cpu : ℕ) (known : List Known) → length owners ≡ length known → length (all_handed owners cpu known) ≡ length known
handed_long [] cpu [] long = refl
handed_long [] cpu (k ∷ known) long = absurd (omega arith)
handed_long (o ∷ owners) cpu [] long = refl
handed_long (o ∷ owners) cpu (k ∷ known) long = ap suc (handed_long owners cpu known (omega arith))

pub joined_long : (into from : List Known) → length into ≡ length from → length (all_joined into from) ≡ length into
joined_long [] [] long = refl
joined_long [] (k ∷ from) long = absurd (omega arith)
joined_long (k ∷ into) [] long = absurd (omega arith)
joined_long (k ∷ into) (j ∷ from) long = ap suc (joined_long into from (omega arith))

pub parts_long : (into from : List Part) → length (all_parts into from) ≡ length into
parts_long [] from = refl
parts_long (k ∷ into) [] = refl
parts_long (k ∷ into) (j ∷ from) = ap suc (parts_long into from)
