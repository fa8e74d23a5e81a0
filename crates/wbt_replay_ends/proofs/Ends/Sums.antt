-- Sums over lists of which one place changes, and cases by a test.
use Rattle.std.proofs.Common.{◌≡◌, ◌≢◌, ℕ, zero, suc, ◌+◌, ◌*◌, ◌<◌, ◌≤◌, List, [], ◌∷◌, length, get_or, refl, arith, ⊎_elim}
use Rattle.std.proofs.Math.ListN.{set}
use Rattle.std.specs.List.{sum_by}
use Rattle.std.proofs.lemmas.Bool.{cases_lt}
use Rattle.std.proofs.lemmas.List.{get_or_past}
use Rattle.std.proofs.lemmas.List.Sums.{sum_by-cons}

-- a place whose item isn't the default
pub is_there : {A : Type 0} (xs : List A) (i : ℕ) (d : A) → (get_or xs i d ≡ d → ⊥) → i < length xs
is_there xs i d other = ⊎_elim (λ less. less) (λ past. absurd (other (get_or_past xs i d past))) (cases_lt i (length xs))

-- summands that are the same place by place
pub sum_same : {A : Type 0} (f g : A → ℕ) (d : A) (xs : List A) → ((j : ℕ) → f (get_or xs j d) ≡ g (get_or xs j d)) → sum_by f xs ≡ sum_by g xs
sum_same f g d [] h = refl
sum_same f g d (x ∷ xs) h =
    let rest = sum_same f g d xs (λ j. h (suc j)) in
    let here : f x ≡ g x = h 0 in
    omega (arith, rest, here, sum_by-cons f x xs, sum_by-cons g x xs)

-- One place is changed, and the summands of all others are the same.
pub sum_but : {A : Type 0} (f g : A → ℕ) (d : A) (xs : List A) (i : ℕ) (y : A) → i < length xs → ((j : ℕ) → j ≢ i → f (get_or xs j d) ≡ g (get_or xs j d))
    → sum_by g (set xs i y) + f (get_or xs i d) ≡ sum_by f xs + g y
sum_but f g d [] i y less h = absurd (omega (arith, less))
sum_but f g d (x ∷ xs) zero y less h =
    let rest = sum_same f g d xs (λ j. h (suc j) (λ e. omega (arith, e))) in
    omega (arith, rest, sum_by-cons f x xs, sum_by-cons g y xs)
sum_but f g d (x ∷ xs) (suc i) y less h =
    let rest = sum_but f g d xs i y (omega (arith, less)) (λ j n. h (suc j) (λ e. n (omega (arith, e)))) in
    let here : f x ≡ g x = h 0 (λ e. omega (arith, e)) in
    omega (arith, rest, here, sum_by-cons f x xs, sum_by-cons g x (set xs i y))

-- a summand that is at most so much each
pub sum_most : {A : Type 0} (f : A → ℕ) (most : ℕ) (d : A) (xs : List A) → ((j : ℕ) → j < length xs → f (get_or xs j d) ≤ most) → sum_by f xs ≤ length xs * most
sum_most f most d [] h = omega arith
sum_most f most d (x ∷ xs) h =
    let rest = sum_most f most d xs (λ j less. h (suc j) (omega (arith, less))) in
    let here : f x ≤ most = h 0 (omega arith) in
    omega (arith, rest, here, sum_by-cons f x xs)

-- no summand rises
pub sum_falls : {A : Type 0} (f g : A → ℕ) → ((x : A) → g x ≤ f x) → (xs : List A) → sum_by g xs ≤ sum_by f xs
sum_falls f g h [] = omega arith
sum_falls f g h (x ∷ xs) = let rest = sum_falls f g h xs in omega (arith, rest, h x, sum_by-cons f x xs, sum_by-cons g x xs)

-- no summand
pub sum_none : {A : Type 0} (f : A → ℕ) (d : A) (xs : List A) → ((i : ℕ) → i < length xs → f (get_or xs i d) ≡ 0) → sum_by f xs ≡ 0
sum_none f d [] h = refl
sum_none f d (x ∷ xs) h =
    let rest = sum_none f d xs (λ i less. h (suc i) (omega (arith, less))) in
    let this : f x ≡ 0 = h 0 (omega arith) in
    omega (arith, rest, this, sum_by-cons f x xs)
