-- Paths by links: what stands on them, when they stay as they are, and how a number is put in.
use Rattle.std.proofs.Common.{◌≡◌, ◌<◌, ◌≤◌, ℕ, zero, suc, List, [], ◌∷◌, length, drop, arith, refl, inl, inr, ap, sym, subst, ◌∙◌}
use Rattle.std.proofs.lemmas.Bool.{cases_eq, cases_lt, lt-ltb, le-ltb}
use Rattle.wbt_expiry.specs.Paths.{next_of, IsPath, path, path_of, Ends, times_in}
use Rattle.wbt_expiry.proofs.Times.{times_here, times_other, times_none, times_more, without, without_here, without_there, without_same}

-- a number on a path is one of those that have a link
pub on_path : (nexts : List ℕ) (at : ℕ) (xs : List ℕ) (y : ℕ) → IsPath nexts at xs → 1 ≤ times_in y xs → y < length nexts
unfolding IsPath
on_path nexts at [] y leads stands = absurd (omega (arith, times_none y))
on_path nexts at (x ∷ xs) y leads stands = elim (cases_eq y x) [
  | inl same ↦ omega (arith, leads.1)
  | inr differ ↦ on_path nexts (next_of nexts x) xs y leads.2 (omega (arith, times_other y x xs differ))
]

-- where the links of the numbers on it stay, a path stays
pub path_stays :
    (old new : List ℕ) (at : ℕ) (xs : List ℕ) → length new ≡ length old
    → ((y : ℕ) → 1 ≤ times_in y xs → next_of new y ≡ next_of old y)
    → IsPath old at xs → IsPath new at xs
unfolding IsPath
path_stays old new at [] long stay leads = omega (arith, leads)
path_stays old new at (x ∷ xs) long stay leads =
    let next : next_of new x ≡ next_of old x = stay x (omega (arith, times_here x x xs refl)) in
    let rest : IsPath new (next_of old x) xs =
    path_stays old new (next_of old x) xs long (λ y stands. stay y (omega (arith, times_more y x xs))) leads.2 in
    (leads.0, omega (arith, leads.1), subst (λ (to : ℕ). IsPath new to xs) (sym next) rest)

path_goes : (nexts : List ℕ) (most at : ℕ) → at < length nexts → path nexts (suc most) at ≡ at ∷ path nexts most (next_of nexts at)
unfolding path
path_goes nexts most at within = rw (lt-ltb at (length nexts) within, path) refl

path_zero : (nexts : List ℕ) (at : ℕ) → length (path nexts 0 at) ≤ 0
unfolding path
path_zero nexts at = omega arith

path_ends : (nexts : List ℕ) (most at : ℕ) → length nexts ≤ at → path nexts (suc most) at ≡ []
unfolding path
path_ends nexts most at none = rw (le-ltb at (length nexts) none, path) refl

path_of_none : (nexts : List ℕ) (most at : ℕ) → length nexts ≤ at → path nexts most at ≡ []
unfolding path
path_of_none nexts zero at none = refl
path_of_none nexts (suc most) at none = path_ends nexts most at none

-- the numbers along which the links lead are those of the path
pub path_is : (nexts : List ℕ) (most at : ℕ) (xs : List ℕ) → length xs ≤ most → IsPath nexts at xs → path nexts most at ≡ xs
unfolding IsPath path
path_is nexts zero at [] short leads = refl
path_is nexts zero at (x ∷ xs) short leads = absurd (omega arith)
path_is nexts (suc most) at [] short leads = path_ends nexts most at (omega (arith, leads))
path_is nexts (suc most) at (x ∷ xs) short leads =
    let here : at ≡ x = leads.0 in
    rw (path_goes nexts most at (omega (arith, leads.1)), here)
    (ap (λ (l : List ℕ). x ∷ l) (path_is nexts most (next_of nexts x) xs (omega arith) leads.2))

-- the first number of a path is where it begins, and a path that begins at none is empty

pub path_first : (nexts : List ℕ) (at : ℕ) (xs : List ℕ) → IsPath nexts at xs → (at ≡ length nexts → ⊥) → xs ≡ at ∷ drop 1 xs
unfolding IsPath
path_first nexts at [] leads some = absurd (some leads)
path_first nexts at (x ∷ xs) leads some = ap (λ (y : ℕ). y ∷ xs) (sym leads.0)

pub path_none : (nexts : List ℕ) (at : ℕ) (xs : List ℕ) → IsPath nexts at xs → at ≡ length nexts → xs ≡ []
unfolding IsPath
path_none nexts at [] leads none = refl
path_none nexts at (x ∷ xs) leads none = absurd (omega (arith, leads.0, leads.1))

-- a path that was followed is at most as long as it was followed
path_is_short : (nexts : List ℕ) (most at : ℕ) → length (path nexts most at) ≤ most
path_is_short nexts zero at = path_zero nexts at
path_is_short nexts (suc most) at = elim (cases_lt at (length nexts)) [
  | inl within ↦ rw (path_goes nexts most at within) (omega (arith, path_is_short nexts most (next_of nexts at)))
  | inr none ↦ rw (path_ends nexts most at none) (omega arith)
]

-- from a number on that isn't none, a path that ends goes on to the number that it leads to
pub ends_on :
    (nexts : List ℕ) (at : ℕ) → Ends nexts at → at < length nexts
    → (path_of nexts at ≡ at ∷ path_of nexts (next_of nexts at)) × Ends nexts (next_of nexts at)
unfolding IsPath
ends_on nexts at ends within =
    let first : path_of nexts at ≡ at ∷ drop 1 (path_of nexts at) = path_first nexts at (path_of nexts at) ends (λ none. omega arith) in
    let all : IsPath nexts at (at ∷ drop 1 (path_of nexts at)) = subst (λ (xs : List ℕ). IsPath nexts at xs) first ends in
    let short : length (drop 1 (path_of nexts at)) ≤ length nexts =
    omega (arith, path_is_short nexts (length nexts) at, ap (λ (xs : List ℕ). length xs) first) in
    let rest : path_of nexts (next_of nexts at) ≡ drop 1 (path_of nexts at) =
    path_is nexts (length nexts) (next_of nexts at) (drop 1 (path_of nexts at)) short all.2 in
    (first ∙ ap (λ (xs : List ℕ). at ∷ xs) (sym rest), subst (λ (xs : List ℕ). IsPath nexts (next_of nexts at) xs) (sym rest) all.2)

-- where one number of a path leads to another, this stands after the first
leads_after :
    (nexts : List ℕ) (at x : ℕ) (xs : List ℕ) (before number : ℕ) → IsPath nexts at (x ∷ xs) → 1 ≤ times_in before (x ∷ xs)
    → next_of nexts before ≡ number → number < length nexts → 1 ≤ times_in number xs
unfolding IsPath
leads_after nexts at x [] before number leads stands to within = elim (cases_eq before x) [
  | inl same ↦ absurd (last same)
  | inr differ ↦ absurd (omega (arith, times_other before x [] differ, times_none before))
]
  where
    last : before ≡ x → ⊥
    last same = omega (arith, leads.2, ap (λ (b : ℕ). next_of nexts b) same)
leads_after nexts at x (y ∷ ys) before number leads stands to within = elim (cases_eq before x) [
  | inl same ↦ next same
  | inr differ ↦ omega (
    arith,
    times_more number y ys,
    leads_after nexts (next_of nexts x) y ys before number leads.2 (omega (arith, times_other before x (y ∷ ys) differ)) to within,
  )
]
  where
    next : before ≡ x → 1 ≤ times_in number (y ∷ ys)
    next same = omega (arith, times_here number y ys (sym to ∙ ap (λ (b : ℕ). next_of nexts b) same ∙ leads.2.0))

-- The links before and after a number was taken out after another.
pub record IsLinkedOut (old new : List ℕ) (before number : ℕ) : Type 0 where
  pub long : length new ≡ length old
  pub skips : next_of new before ≡ next_of old number
  pub others : (y : ℕ) → (y ≡ before → ⊥) → next_of new y ≡ next_of old y

-- the path from a number that is taken out
path_skips :
    (old new : List ℕ) (at : ℕ) (xs : List ℕ) (before number : ℕ) → IsLinkedOut old new before number
    → IsPath old at xs → at ≡ number → number < length old → times_in before xs ≡ 0 → ((y : ℕ) → times_in y xs ≤ 1)
    → IsPath new (next_of old number) (without number xs)
unfolding IsPath
path_skips old new at [] before number out leads is within gone once = absurd (omega (arith, leads))
path_skips old new at (x ∷ xs) before number out leads is within gone once =
    let same : number ≡ x = sym is ∙ leads.0 in
    let left : without number (x ∷ xs) ≡ xs =
    without_here number x xs same ∙ without_same number xs (omega (arith, once number, times_here number x xs same)) in
    let rest : IsPath new (next_of old x) xs = path_stays old new (next_of old x) xs out.long
    (λ y stands. out.others y (λ here. omega (arith, gone, times_more before x xs, rw here at stands)))
    leads.2 in
    rw (left, same) rest

-- a path without a number that another led to
pub path_without :
    (old new : List ℕ) (at : ℕ) (xs : List ℕ) (before number : ℕ) → IsLinkedOut old new before number
    → IsPath old at xs → 1 ≤ times_in before xs → next_of old before ≡ number → number < length old → ((y : ℕ) → times_in y xs ≤ 1)
    → IsPath new at (without number xs)
unfolding IsPath
path_without old new at [] before number out leads stands to within once = absurd (omega (arith, times_none before))
path_without old new at (x ∷ xs) before number out leads stands to within once =
    let after : 1 ≤ times_in number xs = leads_after old at x xs before number leads stands to within in
    let differs : number ≡ x → ⊥ = λ same. omega (arith, once number, times_here number x xs same) in
    let rest : IsPath new (next_of new x) (without number xs) = elim (cases_eq before x) [
      | inl same ↦
          subst (λ (to : ℕ). IsPath new to (without number xs)) (sym out.skips ∙ ap (λ (b : ℕ). next_of new b) same)
          (path_skips old new (next_of old x) xs before number out leads.2 (ap (λ (b : ℕ). next_of old b) (sym same) ∙ to) within
          (omega (arith, once before, times_here before x xs same))
          (λ y. omega (arith, once y, times_more y x xs)))
      | inr differ ↦
          subst (λ (to : ℕ). IsPath new to (without number xs)) (sym (out.others x (λ same. differ (sym same))))
          (path_without old new (next_of old x) xs before number out leads.2 (omega (arith, stands, times_other before x xs differ)) to within
          (λ y. omega (arith, once y, times_more y x xs)))
    ] in
    rw (without_there number x xs differs) (leads.0, omega (arith, leads.1, out.long), rest)

-- a path on which something stands begins with a number
pub begins :
    (nexts : List ℕ) (at x : ℕ) → 1 ≤ times_in x (path_of nexts at) → at < length nexts
begins nexts at x stands = elim (cases_lt at (length nexts)) [
  | inl within ↦ within
  | inr none ↦ absurd (omega (arith, times_none x, rw (path_of_none nexts (length nexts) at none) at stands))
]

-- where a path begins stands on it
pub first_stands : (nexts : List ℕ) (at : ℕ) → Ends nexts at → at < length nexts → 1 ≤ times_in at (path_of nexts at)
first_stands nexts at ends within =
    omega (arith, ap (times_in at) (ends_on nexts at ends within).0, times_here at at (path_of nexts (next_of nexts at)) refl)

-- a path that ends begins with a number or with none
pub at_most_none : (nexts : List ℕ) (at : ℕ) → Ends nexts at → at ≤ length nexts
unfolding IsPath
at_most_none nexts at ends = elim (cases_lt at (length nexts)) [
  | inl within ↦ omega arith
  | inr past ↦
      let none : at ≡ length nexts = subst (λ (xs : List ℕ). IsPath nexts at xs) (path_of_none nexts (length nexts) at past) ends in
      omega arith
]
