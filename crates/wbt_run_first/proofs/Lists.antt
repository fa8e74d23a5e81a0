-- Lists made of workers one by one.
use Rattle.std.proofs.Common.{◌≡◌, ℕ, zero, suc, ◌<◌, List, [], ◌∷◌, length, map, get_or, refl, arith}
use Rattle.std.specs.List.{sum_by}
use Rattle.std.proofs.lemmas.List.Sums.{sum_by-cons}
use Rattle.wbt_run_worker.proofs.Common.{total, Each}
use Rattle.wbt_run_laws.proofs.Parts.{total_front}

module _ {A B : Type 0} (f : A → B) where
  -- what stands at a place there is was made of what stands there
  pub made_at : (xs : List A) (n : ℕ) (other : B) (d : A) → n < length xs → get_or (map f xs) n other ≡ f (get_or xs n d)
  made_at [] n other d less = absurd (omega arith)
  made_at (x ∷ xs) zero other d less = refl
  made_at (x ∷ xs) (suc n) other d less = made_at xs n other d (omega arith)

  pub made_long : (xs : List A) → length (map f xs) ≡ length xs
  made_long [] = refl
  made_long (x ∷ xs) = let rest = made_long xs in omega arith

  pub each_made : (P : B → Type 0) (xs : List A) (d : A) → ((n : ℕ) → n < length xs → P (f (get_or xs n d))) → Each P (map f xs)
  each_made P [] d all = tt
  each_made P (x ∷ xs) d all = (all 0 (omega arith), each_made P xs d (λ n less. all (suc n) (omega arith)))

  pub made_sum : (g : B → ℕ) (xs : List A) (d : A) → total (length xs) (λ n. g (f (get_or xs n d))) ≡ sum_by g (map f xs)
  made_sum g [] d = refl
  made_sum g (x ∷ xs) d =
      let front = total_front (length xs) (λ n. g (f (get_or (x ∷ xs) n d))) in
      let rest = made_sum g xs d in
      let sum = sum_by-cons g (f x) (map f xs) in
      omega arith
