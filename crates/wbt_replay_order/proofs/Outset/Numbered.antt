-- Lists of the first things of a family, by number, and sums over them.
use Rattle.std.proofs.Common.{◌≡◌, ◌≢◌, ℕ, zero, suc, ◌<◌, ◌≤◌, cond, eqb, List, [], ◌∷◌, ◌++◌, length, get_or, sum_by, refl, sym, ◌∙◌, ap, subst, arith, eq-eqb, ne_eqb, length-append, ⊎_elim}
use Rattle.std.proofs.lemmas.Bool.{cases_lt, cond-true, cond-false}
use Rattle.std.proofs.lemmas.List.{get_or_append_left, get_or_push, get_or_past}
use Rattle.std.proofs.lemmas.List.Sums.{sum_by_push}
use mathlib.Core.Logic.{dite}
use native.Mathlib.Decide.{ℕ_discrete}
use Rattle.wbt_replay_order.proofs.Common.{total}

module _ {A : Type 0} (xs : ℕ → List A) (f : ℕ → A) (d : A) (none : xs 0 ≡ []) (more : (n : ℕ) → xs (suc n) ≡ xs n ++ f n ∷ []) where
  pub numbered_length : (n : ℕ) → length (xs n) ≡ n
  numbered_length zero = ap (λ (l : List A). length l) none
  numbered_length (suc n) = omega (arith, ap (λ (l : List A). length l) (more n), length-append (xs n) (f n ∷ []), numbered_length n)

  pub numbered_at : (n i : ℕ) → i < n → get_or (xs n) i d ≡ f i
  numbered_at zero i less = absurd (omega (arith, less))
  numbered_at (suc n) i less =
      ap (λ (l : List A). get_or l i d) (more n)
      ∙ ⊎_elim
      (λ before. get_or_append_left (xs n) (f n ∷ []) d i (omega (arith, before, numbered_length n)) ∙ numbered_at n i before)
      (λ last.
      let same : n ≡ i = omega (arith, last, less) in
      get_or_push (xs n) (f n) d i (numbered_length n ∙ same) ∙ ap f same)
      (cases_lt i n)

  -- what holds of each, and of the default, holds by number
  pub numbered_all : (P : ℕ → A → Type 0) → ((i : ℕ) → P i (f i)) → ((i : ℕ) → P i d) → (n i : ℕ) → P i (get_or (xs n) i d)
  numbered_all P each other n i = ⊎_elim
      (λ less. subst (P i) (sym (numbered_at n i less)) (each i))
      (λ past. subst (P i) (sym (get_or_past (xs n) i d (omega (arith, past, numbered_length n)))) (other i))
      (cases_lt i n)

  -- where what holds of the default is known past their number alone
  pub numbered_each : (P : ℕ → A → Type 0) (n : ℕ) → ((i : ℕ) → P i (f i)) → ((i : ℕ) → n ≤ i → P i d) → (i : ℕ) → P i (get_or (xs n) i d)
  numbered_each P n each other i = ⊎_elim
      (λ less. subst (P i) (sym (numbered_at n i less)) (each i))
      (λ past. subst (P i) (sym (get_or_past (xs n) i d (omega (arith, past, numbered_length n)))) (other i past))
      (cases_lt i n)

  pub numbered_sum : (g : A → ℕ) (n : ℕ) → sum_by g (xs n) ≡ total n (λ k. g (f k))
  numbered_sum g zero = ap (sum_by g) none
  numbered_sum g (suc n) = omega (arith, ap (sum_by g) (more n), sum_by_push g (xs n) (f n), numbered_sum g n)

-- ---- a sum with one part

nothing_apart : (n x v : ℕ) → n ≤ x → total n (λ k. cond (eqb x k) v 0) ≡ 0
nothing_apart zero x v past = refl
nothing_apart (suc n) x v past =
    let this : cond (eqb x n) v 0 ≡ 0 = cond-false (eqb x n) v 0 (ne_eqb x n (λ e. omega (arith, e, past))) in
    omega (arith, nothing_apart n x v (omega (arith, past)), this)

pub one_part : (n x v : ℕ) → x < n → total n (λ k. cond (eqb x k) v 0) ≡ v
one_part zero x v less = absurd (omega (arith, less))
one_part (suc n) x v less = dite (ℕ_discrete x n)
    (λ here.
    let this : cond (eqb x n) v 0 ≡ v = cond-true (eqb x n) v 0 (eq-eqb x n here) in
    omega (arith, nothing_apart n x v (omega (arith, here)), this))
    (λ apart.
    let this : cond (eqb x n) v 0 ≡ 0 = cond-false (eqb x n) v 0 (ne_eqb x n apart) in
    omega (arith, one_part n x v (let other : x ≢ n = apart in omega (arith, less, other)), this))

pub one_part_most : (n x v : ℕ) → total n (λ k. cond (eqb x k) v 0) ≤ v
one_part_most n x v = ⊎_elim (λ less. omega (arith, one_part n x v less)) (λ past. omega (arith, nothing_apart n x v past)) (cases_lt x n)
