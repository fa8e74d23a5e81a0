-- How often a number stands in a list, and in lists.
use Rattle.std.proofs.Common.{◌≡◌, ◌+◌, ◌<◌, ◌≤◌, ℕ, zero, suc, cond, eqb, List, [], ◌∷◌, length, get_or, arith, refl, inl, inr, ap}
use Rattle.std.proofs.lemmas.Bool.{cases_eq, ne_eqb, eq-eqb}
use Rattle.wbt_expiry.specs.Paths.{times_in}

-- in a list that begins with the number, and in one that begins with another

pub times_here : (x y : ℕ) (ys : List ℕ) → x ≡ y → times_in x (y ∷ ys) ≡ suc (times_in x ys)
unfolding times_in
times_here x y ys same = rw (eq-eqb x y same) (omega arith)

pub times_other : (x y : ℕ) (ys : List ℕ) → (x ≡ y → ⊥) → times_in x (y ∷ ys) ≡ times_in x ys
unfolding times_in
times_other x y ys differ = rw (ne_eqb x y differ) (omega arith)

pub times_none : (x : ℕ) → times_in x [] ≡ 0
unfolding times_in
times_none x = refl

pub times_more : (x y : ℕ) (ys : List ℕ) → times_in x ys ≤ times_in x (y ∷ ys)
times_more x y ys = elim (cases_eq x y) [
  | inl same ↦ omega (arith, times_here x y ys same)
  | inr differ ↦ omega (arith, times_other x y ys differ)
]

-- the number in a place stands in the list
pub times_got : (xs : List ℕ) (i : ℕ) → i < length xs → 1 ≤ times_in (get_or xs i 0) xs
times_got [] i h = absurd (omega arith)
times_got (x ∷ xs) zero h = omega (arith, times_here x x xs refl)
times_got (x ∷ xs) (suc i) h = omega (arith, times_got xs i (omega arith), times_more (get_or xs i 0) x xs)

-- the list without a number

unfoldable pub without : (x : ℕ) (list : List ℕ) → List ℕ
without x [] = []
without x (y ∷ ys) = cond (eqb x y) (without x ys) (y ∷ without x ys)

pub without_itself : (x : ℕ) (list : List ℕ) → times_in x (without x list) ≡ 0
unfolding without
without_itself x [] = times_none x
without_itself x (y ∷ ys) = elim (cases_eq x y) [
  | inl same ↦ rw (eq-eqb x y same) (without_itself x ys)
  | inr differ ↦ rw (ne_eqb x y differ) (omega (arith, times_other x y (without x ys) differ, without_itself x ys))
]

pub without_other : (x z : ℕ) (list : List ℕ) → (z ≡ x → ⊥) → times_in z (without x list) ≡ times_in z list
unfolding without
without_other x z [] other = refl
without_other x z (y ∷ ys) other = elim (cases_eq x y) [
  | inl same ↦ rw (eq-eqb x y same) (omega (arith, without_other x z ys other, times_other z y ys (λ here. other (omega arith))))
  | inr differ ↦ rw (ne_eqb x y differ) (elim (cases_eq z y) [
    | inl here ↦ omega (arith, times_here z y ys here, times_here z y (without x ys) here, without_other x z ys other)
    | inr there ↦ omega (arith, times_other z y ys there, times_other z y (without x ys) there, without_other x z ys other)
  ])
]

pub without_same : (x : ℕ) (list : List ℕ) → times_in x list ≡ 0 → without x list ≡ list
unfolding without
without_same x [] gone = refl
without_same x (y ∷ ys) gone = elim (cases_eq x y) [
  | inl same ↦ absurd (omega (arith, times_here x y ys same))
  | inr differ ↦ rw (ne_eqb x y differ) (ap (λ (l : List ℕ). y ∷ l) (without_same x ys (omega (arith, times_other x y ys differ))))
]

pub without_here : (x y : ℕ) (ys : List ℕ) → x ≡ y → without x (y ∷ ys) ≡ without x ys
unfolding without
without_here x y ys same = rw (eq-eqb x y same) refl

pub without_there : (x y : ℕ) (ys : List ℕ) → (x ≡ y → ⊥) → without x (y ∷ ys) ≡ y ∷ without x ys
unfolding without
without_there x y ys differ = rw (ne_eqb x y differ) refl

without_less : (x z : ℕ) (list : List ℕ) → times_in z (without x list) ≤ times_in z list
unfolding without
without_less x z [] = omega arith
without_less x z (y ∷ ys) = elim (cases_eq x y) [
  | inl same ↦ rw (eq-eqb x y same) (omega (arith, without_less x z ys, times_more z y ys))
  | inr differ ↦ rw (ne_eqb x y differ) (elim (cases_eq z y) [
    | inl here ↦ omega (arith, times_here z y ys here, times_here z y (without x ys) here, without_less x z ys)
    | inr other ↦ omega (arith, times_other z y ys other, times_other z y (without x ys) other, without_less x z ys)
  ])
]

without_shorter : (x : ℕ) (list : List ℕ) → length list ≡ times_in x list + length (without x list)
unfolding without
without_shorter x [] = omega (arith, times_none x)
without_shorter x (y ∷ ys) = elim (cases_eq x y) [
  | inl same ↦ rw (eq-eqb x y same) (omega (arith, times_here x y ys same, without_shorter x ys))
  | inr differ ↦ rw (ne_eqb x y differ) (omega (arith, times_other x y ys differ, without_shorter x ys))
]

-- a list of numbers below n, each once at most, is no longer than n
pub is_short :
    (n : ℕ) (list : List ℕ) → ((x : ℕ) → times_in x list ≤ 1) → ((x : ℕ) → 1 ≤ times_in x list → x < n) → length list ≤ n
is_short zero [] once below = omega arith
is_short zero (x ∷ xs) once below = absurd (omega (arith, below x (omega (arith, times_here x x xs refl))))
is_short (suc n) list once below =
    let rest : length (without n list) ≤ n = is_short n (without n list)
    (λ x. omega (arith, once x, without_less n x list))
    (λ x stands. elim (cases_eq x n) [
      | inl same ↦ absurd (gone x same stands)
      | inr differ ↦ omega (arith, below x (omega (arith, without_less n x list)))
    ]) in
    omega (arith, rest, without_shorter n list, once n)
  where
    gone : (x : ℕ) → x ≡ n → 1 ≤ times_in x (without n list) → ⊥
    gone x same stands = omega (arith, without_itself n list, rw same at stands)
