-- Lists by number: one place changed, sums and counts, and cases by a test.
use Rattle.std.proofs.Common.{◌≡◌, ◌≢◌, ℕ, zero, suc, ◌+◌, ◌<◌, ◌≤◌, Bool, cond, List, [], ◌∷◌, length, get_or, All, ⊎_elim, refl, subst, arith}
use Rattle.std.proofs.Math.ListN.{set}
use Rattle.std.specs.List.{sum_by, count_by}
use Rattle.std.proofs.lemmas.Bool.{cases_lt}
use Rattle.std.proofs.lemmas.List.{get_or_past}
use Rattle.std.proofs.lemmas.List.Elements.{All-head, All-tail, All-cons}
use Rattle.std.proofs.lemmas.List.Sums.{sum_by-set, sum_by-cons}

abbrev pub one_if : Bool → ℕ
one_if b = cond b 1 0

-- ---- one place changed

-- where the default holds too no place need be there
pub set_all : {A : Type 0} (P : ℕ → A → Type 0) (xs : List A) (i : ℕ) (x d : A) → P i x → ((j : ℕ) → P j (get_or xs j d)) → (j : ℕ) → P j (get_or (set xs i x) j d)
set_all P [] i x d here all j = all j
set_all P (y ∷ xs) zero x d here all zero = here
set_all P (y ∷ xs) zero x d here all (suc j) = all (suc j)
set_all P (y ∷ xs) (suc i) x d here all zero = all zero
set_all P (y ∷ xs) (suc i) x d here all (suc j) = set_all (λ k. P (suc k)) xs i x d here (λ k. all (suc k)) j

-- ---- sums and counts

pub sum_set : {A : Type 0} (f : A → ℕ) (xs : List A) (i : ℕ) (y d : A) → i < length xs → sum_by f (set xs i y) + f (get_or xs i d) ≡ sum_by f xs + f y
sum_set f xs i y d less = sum_by-set f xs i y d less

pub count_set : {A : Type 0} (p : A → Bool) (xs : List A) (i : ℕ) (y d : A) → i < length xs → count_by p (set xs i y) + cond (p (get_or xs i d)) 1 0 ≡ count_by p xs + cond (p y) 1 0
count_set p xs i y d less = sum_by-set (λ x. cond (p x) 1 0) xs i y d less

-- an item is a part of the sum
pub sum_part : {A : Type 0} (f : A → ℕ) (xs : List A) (i : ℕ) (d : A) → i < length xs → f (get_or xs i d) ≤ sum_by f xs
sum_part f [] i d less = absurd (omega arith)
sum_part f (x ∷ xs) zero d less = omega (arith, sum_by-cons f x xs)
sum_part f (x ∷ xs) (suc i) d less = let rest = sum_part f xs i d (omega (arith, less)) in omega (arith, rest, sum_by-cons f x xs)

pub sum_same : {A : Type 0} (f g : A → ℕ) → (xs : List A) (d : A) → ((i : ℕ) → i < length xs → f (get_or xs i d) ≡ g (get_or xs i d)) → sum_by f xs ≡ sum_by g xs
sum_same f g [] d same = refl
sum_same f g (x ∷ xs) d same =
    let rest = sum_same f g xs d (λ i less. same (suc i) (omega (arith, less))) in
    let here : f x ≡ g x = same 0 (omega arith) in
    omega (arith, rest, here, sum_by-cons f x xs, sum_by-cons g x xs)

pub count_cons : {A : Type 0} (p : A → Bool) (x : A) (xs : List A) → count_by p (x ∷ xs) ≡ cond (p x) 1 0 + count_by p xs
count_cons p x xs = sum_by-cons (λ x. cond (p x) 1 0) x xs

-- ---- each item holds

pub all_two : {A : Type 0} (P : A → Type 0) (x : A) (xs : List A) → P x → All P xs → All P (x ∷ xs)
all_two P x xs here rest = All-cons P x xs here rest

pub all_rest : {A : Type 0} (P : A → Type 0) (xs : List A) (x : A) (rest : List A) → xs ≡ x ∷ rest → All P xs → P x × All P rest
all_rest P xs x rest is h = (All-head P x rest (subst (All P) is h), All-tail P x rest (subst (All P) is h))

-- a place whose item isn't the default is there
pub is_there : {A : Type 0} (xs : List A) (i : ℕ) (d : A) → (get_or xs i d ≡ d → ⊥) → i < length xs
is_there xs i d other = ⊎_elim (λ less. less) (λ past. absurd (other (get_or_past xs i d past))) (cases_lt i (length xs))

-- two sums that differ at one place
pub sum_but : {A : Type 0} (f g : A → ℕ) (xs : List A) (i : ℕ) (d : A) → i < length xs → ((j : ℕ) → j ≢ i → j < length xs → f (get_or xs j d) ≡ g (get_or xs j d))
    → sum_by f xs + g (get_or xs i d) ≡ sum_by g xs + f (get_or xs i d)
sum_but f g [] i d less same = absurd (omega arith)
sum_but f g (x ∷ xs) zero d less same =
    let rest = sum_same f g xs d (λ j l. same (suc j) (λ e. absurd (omega (arith, e))) (omega (arith, l))) in
    omega (arith, rest, sum_by-cons f x xs, sum_by-cons g x xs)
sum_but f g (x ∷ xs) (suc i) d less same =
    let rest = sum_but f g xs i d (omega (arith, less)) (λ j n l. same (suc j) (λ e. n (omega (arith, e))) (omega (arith, l))) in
    let here : f x ≡ g x = same 0 (λ e. absurd (omega (arith, e))) (omega arith) in
    omega (arith, rest, here, sum_by-cons f x xs, sum_by-cons g x xs)
