-- Numbers that are halved, and packed words.
use Rattle.std.proofs.Common.{◌≡◌, ℕ, ◌+◌, ◌-◌, ◌/◌, ◌%◌, ◌^◌, ◌<◌, ◌≤◌, Bool, true, false, cond, eqb, List, [], ◌∷◌, sym, refl, ap, ◌∙◌, subst, arith}
use Rattle.std.proofs.lemmas.Nat.{shr_le}
use Rattle.wbt_flex.specs.Eager.{halved}
use Rattle.wbt_flex.proofs.Halving.{halved_is, halvings_add}
use Rattle.wbt_fraction.specs.declared.domain.note.Note.{Note}
use Rattle.wbt_fraction.specs.declared.domain.note.Note.TheVariants.{Found, Added, Period}
use Rattle.wbt_fraction.specs.Sums.{total}
use Rattle.wbt_fraction.specs.Words.{period_of, events_of, word_of}
use Rattle.wbt_fraction.specs.Numbers.{Stamped, number, latest, start_of}
use Rattle.wbt_fraction.specs.Notes.{additions, added_at}

pub halved_twice : (a b n : ℕ) → halved b (halved a n) ≡ halved (a + b) n
halved_twice a b n =
    halved_is b (halved a n) ∙ ap (λ m. m / 2 ^ b) (halved_is a n) ∙ halvings_add n a b ∙ sym (halved_is (a + b) n)

pub halved_le : (times n : ℕ) → halved times n ≤ n
halved_le times n = subst (λ m. m ≤ n) (sym (halved_is times n)) (shr_le n times)

pub halved_not : (p n : ℕ) → halved (p - p) n ≡ n
unfolding halved
halved_not p n =
    let none : 0 ≡ p - p = omega arith in
    subst (λ d. halved d n ≡ n) none refl

pub number_later : (start : ℕ) (adds : List Stamped) (p q : ℕ) → latest adds ≤ p → p ≤ q
    → number start adds q ≡ halved (q - p) (number start adds p)
unfolding number latest
number_later start [] p q late h =
    let distance : p + (q - p) ≡ q = omega arith in
    sym (halved_twice p (q - p) start ∙ ap (λ d. halved d start) distance)
number_later start (add ∷ older) p q late h =
    let distance : (p - add.0) + (q - p) ≡ q - add.0 = omega arith in
    let n : ℕ = number start older add.0 + add.1 in
    sym (halved_twice (p - add.0) (q - p) n ∙ ap (λ d. halved d n) distance)

pub number_added : (start : ℕ) (adds : List Stamped) (p n : ℕ) → number start ((p, n) ∷ adds) p ≡ number start adds p + n
unfolding number
number_added start adds p n = halved_not p (number start adds p + n)

pub sum_of : List Stamped → ℕ
sum_of [] = 0
sum_of (add ∷ older) = add.1 + sum_of older

pub number_le : (start : ℕ) (adds : List Stamped) (p : ℕ) → number start adds p ≤ start + sum_of adds
unfolding number sum_of
number_le start [] p =
    let h = halved_le p start in
    omega arith
number_le start (add ∷ older) p =
    let h = halved_le (p - add.0) (number start older add.0 + add.1) in
    let rest = number_le start older add.0 in
    omega arith

sum_if : (b : Bool) (p n : ℕ) (adds : List Stamped) → sum_of (cond b ((p, n) ∷ adds) adds) ≡ cond b n 0 + sum_of adds
unfolding sum_of
sum_if true p n adds = refl
sum_if false p n adds = let e : sum_of adds ≡ 0 + sum_of adds = omega arith in e

pub sum_is : (at : ℕ) (history : List Note) → sum_of (additions at history) ≡ total (added_at at) history
unfolding sum_of additions total
sum_is at [] = refl
sum_is at (Found a word ∷ older) =
    let rest = sum_is at older in
    omega arith
sum_is at (Added a word n ∷ older) =
    let rest = sum_is at older in
    sum_if (eqb a at) (period_of word) n (additions at older) ∙ ap (λ m. cond (eqb a at) n 0 + m) rest
sum_is at (Period word k ∷ older) =
    let rest = sum_is at older in
    omega arith

pub number_at_most : (at : ℕ) (history : List Note) (p : ℕ) → number (start_of at) (additions at history) p ≤ start_of at + total (added_at at) history
number_at_most at history p = subst (λ m. number (start_of at) (additions at history) p ≤ start_of at + m) (sum_is at history) (number_le (start_of at) (additions at history) p)

pub plus_period : (word n : ℕ) → events_of word + n < 2 ^ 40 → period_of (word + n) ≡ period_of word
plus_period word n h = omega arith

pub plus_events : (word n : ℕ) → events_of word + n < 2 ^ 40 → events_of (word + n) ≡ events_of word + n
plus_events word n h = omega arith

pub plus_fits : (word n : ℕ) → word < 2 ^ 64 → events_of word + n < 2 ^ 40 → (word + n) % 2 ^ 64 ≡ word + n
plus_fits word n small h = omega arith

pub made_period : (period events : ℕ) → events < 2 ^ 40 → period_of (word_of period events) ≡ period
made_period period events h = omega arith

pub made_events : (period events : ℕ) → events < 2 ^ 40 → events_of (word_of period events) ≡ events
made_events period events h = omega arith
