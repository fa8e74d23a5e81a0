-- Places of lists.
use Rattle.std.proofs.Common.{◌≡◌, ℕ, zero, suc, ◌<◌, List, [], ◌∷◌, length, get_or, set, sym, refl, ap, arith}
use mathlib.Core.Option.{some, some-injective, some-ne-none}
use lib.ListN.{get_elem?}

module _ {A : Type 0} where
  pub at_less : (l : List A) (i : ℕ) (a : A) → get_elem? l i ≡ some a → i < length l
  at_less [] i a e = absurd (some-ne-none a (sym e))
  at_less (x ∷ xs) zero a e = omega arith
  at_less (x ∷ xs) (suc i) a e = let l = at_less xs i a e in omega arith

  pub set_set : (l : List A) (i : ℕ) (a b : A) → set (set l i a) i b ≡ set l i b
  set_set [] i a b = refl
  set_set (x ∷ xs) zero a b = refl
  set_set (x ∷ xs) (suc i) a b = ap (λ (l : List A). x ∷ l) (set_set xs i a b)

  pub at_read : (l : List A) (i : ℕ) (a : A) → get_elem? l i ≡ some a → (d : A) → get_or l i d ≡ a
  at_read [] i a e d = absurd (some-ne-none a (sym e))
  at_read (x ∷ xs) zero a e d = some-injective x a e
  at_read (x ∷ xs) (suc i) a e d = at_read xs i a e d

  pub read_at : (l : List A) (i : ℕ) (a d : A) → i < length l → get_or l i d ≡ a → get_elem? l i ≡ some a
  read_at [] i a d h e = absurd (omega arith)
  read_at (x ∷ xs) zero a d h e = ap some e
  read_at (x ∷ xs) (suc i) a d h e = read_at xs i a d (omega arith) e

  pub same_default : (l : List A) (i : ℕ) (a b : A) → i < length l → get_or l i a ≡ get_or l i b
  same_default [] i a b h = absurd (omega arith)
  same_default (x ∷ xs) zero a b h = refl
  same_default (x ∷ xs) (suc i) a b h = same_default xs i a b (omega arith)
