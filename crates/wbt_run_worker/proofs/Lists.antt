-- Items of lists that change at one place.
use Rattle.std.proofs.Common.{◌≡◌, ℕ, zero, suc, ◌<◌, ◌≤◌, List, [], ◌∷◌, length, map, set, get_or, Contains, refl, subst, arith}
use Rattle.std.specs.List.{sum_by}
use Rattle.std.proofs.lemmas.List.Sums.{sum_by-cons}
use Rattle.wbt_run_worker.proofs.Common.{Each}

module _ {A : Type 0} where
  pub each_set : (P : A → Type 0) (xs : List A) (k : ℕ) (v : A) → Each P xs → P v → Each P (set xs k v)
  each_set P [] k v all one = tt
  each_set P (x ∷ xs) zero v all one = (one, all.1)
  each_set P (x ∷ xs) (suc k) v all one = (all.0, each_set P xs k v all.1 one)

  pub each_at : (P : A → Type 0) (xs : List A) (k : ℕ) (d : A) → k < length xs → Each P xs → P (get_or xs k d)
  each_at P [] k d less all = absurd (omega arith)
  each_at P (x ∷ xs) zero d less all = all.0
  each_at P (x ∷ xs) (suc k) d less all = each_at P xs k d (omega arith) all.1

  pub each_and : (P Q R : A → Type 0) → ((x : A) → P x → Q x → R x) → (xs : List A) → Each P xs → Each Q xs → Each R xs
  each_and P Q R h [] p q = tt
  each_and P Q R h (x ∷ xs) p q = (h x p.0 q.0, each_and P Q R h xs p.1 q.1)

  pub has_it : (P : A → Type 0) (xs : List A) (x : A) → Each P xs → Contains xs x → P x
  has_it P [] x each has = let low = has.1 in absurd (omega arith)
  has_it P (y ∷ ys) x each (zero, low, is) = subst P is each.0
  has_it P (y ∷ ys) x each (suc k, low, is) = has_it P ys x each.1 (k, (omega arith), is)

  pub at_most : (f : A → ℕ) (xs : List A) (k : ℕ) (d : A) → k < length xs → f (get_or xs k d) ≤ sum_by f xs
  at_most f [] k d less = absurd (omega arith)
  at_most f (x ∷ xs) zero d less = let sums = sum_by-cons f x xs in omega arith
  at_most f (x ∷ xs) (suc k) d less = let rest = at_most f xs k d (omega arith) in let sums = sum_by-cons f x xs in omega arith

  pub map_at : {B : Type 0} (f : A → B) (xs : List A) (k : ℕ) (d : A) → get_or (map f xs) k (f d) ≡ f (get_or xs k d)
  map_at f [] k d = refl
  map_at f (x ∷ xs) zero d = refl
  map_at f (x ∷ xs) (suc k) d = map_at f xs k d

  pub long_map : {B : Type 0} (f : A → B) (xs : List A) → length (map f xs) ≡ length xs
  long_map f [] = refl
  long_map f (x ∷ xs) = let rest = long_map f xs in omega arith
