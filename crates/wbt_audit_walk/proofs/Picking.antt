-- Lists that are told piece by piece, cut at one of their pieces.
use Rattle.std.proofs.Common.{◌≡◌, ℕ, suc, ◌+◌, ◌-◌, ◌<◌, List, [], ◌∷◌, ◌++◌, length, flat_map, take, drop, sym, sym, ap, ◌∙◌, arith}
use Rattle.std.proofs.Math.ListN.{get_or}
use Rattle.std.proofs.lemmas.List.{take_rest}
use Rattle.std.proofs.Math.Seq.{split_at}
use Rattle.std.proofs.lemmas.Grind.{flat_map-append}

-- what comes before a piece, the piece, and what comes behind it
pub flat_map_at : {X A : Type 0} (f : X → List A) (xs : List X) (i : ℕ) (d : X) → i < length xs
    → flat_map f xs ≡ flat_map f (take i xs) ++ (f (get_or xs i d) ++ flat_map f (drop (suc i) xs))
flat_map_at f xs i d below = ap (flat_map f) (split_at xs i d below) ∙ flat_map-append f (take i xs) (get_or xs i d ∷ drop (suc i) xs)

plus_one : (i : ℕ) → i + 1 ≡ suc i
plus_one i = omega arith

-- where the pieces before one tell nothing, and it tells one thing, that comes first
pub first_told : {X A : Type 0} (f : X → List A) (xs : List X) (i : ℕ) (d : X) (a : A) → i < length xs → flat_map f (take i xs) ≡ []
    → f (get_or xs i d) ≡ a ∷ [] → flat_map f xs ≡ a ∷ flat_map f (take (length xs - (i + 1)) (drop (i + 1) xs))
first_told f xs i d a below none is =
    rw (flat_map_at f xs i d below, none, is, plus_one i) (ap (λ more. a ∷ flat_map f more) (sym (take_rest xs (suc i))))
