-- A list whose first so many items were changed.
use Rattle.std.proofs.Common.{◌≡◌, ℕ, zero, suc, ◌+◌, ◌≤◌, List, [], ◌∷◌, length, map, get_or, set, refl, sym, ap, arith, add-one}

module _ {A : Type 0} (f : A → A) where
  abbrev pub sofar : (xs : List A) (i : ℕ) → List A
  sofar [] i = []
  sofar (x ∷ xs) zero = x ∷ xs
  sofar (x ∷ xs) (suc i) = f x ∷ sofar xs i

  pub sofar_none : (xs : List A) → sofar xs 0 ≡ xs
  sofar_none [] = refl
  sofar_none (x ∷ xs) = refl

  pub sofar_long : (xs : List A) (i : ℕ) → length (sofar xs i) ≡ length xs
  sofar_long [] i = refl
  sofar_long (x ∷ xs) zero = refl
  sofar_long (x ∷ xs) (suc i) = let rest = sofar_long xs i in omega arith

  pub sofar_at : (xs : List A) (i : ℕ) (d : A) → get_or (sofar xs i) i d ≡ get_or xs i d
  sofar_at [] i d = refl
  sofar_at (x ∷ xs) zero d = refl
  sofar_at (x ∷ xs) (suc i) d = sofar_at xs i d

  set_next : (xs : List A) (i : ℕ) (d : A) → set (sofar xs i) i (f (get_or xs i d)) ≡ sofar xs (suc i)
  set_next [] i d = refl
  set_next (x ∷ xs) zero d = ap (λ (l : List A). f x ∷ l) (sym (sofar_none xs))
  set_next (x ∷ xs) (suc i) d = ap (λ (l : List A). f x ∷ l) (set_next xs i d)

  -- the next is changed
  pub sofar_set : (xs : List A) (i : ℕ) (d : A) → set (sofar xs i) i (f (get_or xs i d)) ≡ sofar xs (i + 1)
  sofar_set xs i d = rw add-one (set_next xs i d)

  skip_next : (xs : List A) (i : ℕ) (d : A) → f (get_or xs i d) ≡ get_or xs i d → sofar xs i ≡ sofar xs (suc i)
  skip_next [] i d same = refl
  skip_next (x ∷ xs) zero d same = λ j. sym same j ∷ sym (sofar_none xs) j
  skip_next (x ∷ xs) (suc i) d same = ap (λ (l : List A). f x ∷ l) (skip_next xs i d same)

  -- or stays as it is
  pub sofar_skip : (xs : List A) (i : ℕ) (d : A) → f (get_or xs i d) ≡ get_or xs i d → sofar xs i ≡ sofar xs (i + 1)
  sofar_skip xs i d same = rw add-one (skip_next xs i d same)

  pub sofar_all : (xs : List A) (i : ℕ) → length xs ≤ i → sofar xs i ≡ map f xs
  sofar_all [] i past = refl
  sofar_all (x ∷ xs) zero past = absurd (omega arith)
  sofar_all (x ∷ xs) (suc i) past = ap (λ (l : List A). f x ∷ l) (sofar_all xs i (omega arith))
