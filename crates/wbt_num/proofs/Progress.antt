-- A list of which the first few elements are new ones already.
use Rattle.std.proofs.Common.{◌≡◌, ℕ, zero, suc, ◌<◌, List, [], ◌∷◌, ◌++◌, length, get_or, take, drop, set, refl, ap, arith}

module _ {X : Type 0} where
  -- the first few of the one list, and the rest of the other
  abbrev pub so_far : (i : ℕ) (new old : List X) → List X
  so_far i new old = take i new ++ drop i old

  pub so_far-next : (i : ℕ) (new old : List X) (d : X) → i < length new → i < length old → set (so_far i new old) i (get_or new i d) ≡ so_far (suc i) new old
  so_far-next i [] old d h g = absurd (omega arith)
  so_far-next i (n ∷ ns) [] d h g = absurd (omega arith)
  so_far-next zero (n ∷ ns) (o ∷ os) d h g = refl
  so_far-next (suc i) (n ∷ ns) (o ∷ os) d h g = ap (λ l. n ∷ l) (so_far-next i ns os d (omega arith) (omega arith))

  pub so_far-old : (i : ℕ) (new old : List X) (d : X) → i < length new → i < length old → get_or (so_far i new old) i d ≡ get_or old i d
  so_far-old i [] old d h g = absurd (omega arith)
  so_far-old i (n ∷ ns) [] d h g = absurd (omega arith)
  so_far-old zero (n ∷ ns) (o ∷ os) d h g = refl
  so_far-old (suc i) (n ∷ ns) (o ∷ os) d h g = so_far-old i ns os d (omega arith) (omega arith)

  pub so_far-all : (i : ℕ) (new old : List X) → length new ≡ i → length old ≡ i → so_far i new old ≡ new
  so_far-all zero [] [] h g = refl
  so_far-all zero [] (o ∷ os) h g = absurd (omega arith)
  so_far-all zero (n ∷ ns) old h g = absurd (omega arith)
  so_far-all (suc i) [] old h g = absurd (omega arith)
  so_far-all (suc i) (n ∷ ns) [] h g = absurd (omega arith)
  so_far-all (suc i) (n ∷ ns) (o ∷ os) h g = ap (λ l. n ∷ l) (so_far-all i ns os (omega arith) (omega arith))

  pub take_more : (i : ℕ) (xs : List X) (d : X) → i < length xs → take (suc i) xs ≡ take i xs ++ get_or xs i d ∷ []
  take_more i [] d h = absurd (omega arith)
  take_more zero (x ∷ xs) d h = refl
  take_more (suc i) (x ∷ xs) d h = ap (λ l. x ∷ l) (take_more i xs d (omega arith))
