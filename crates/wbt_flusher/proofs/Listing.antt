-- How often a page stands in a list.
use Rattle.std.proofs.Common.{◌≡◌, ℕ, zero, suc, ◌+◌, ◌<◌, ◌≤◌, ◌⊎◌, Bool, true, false, cond, eqb, List, [], ◌∷◌, ◌++◌, filter, drop, length, get_or, inl, inr, sym, refl, ap, ◌∙◌, arith, eq-eqb, eqb-true, ⊎_elim}
use Rattle.std.proofs.lemmas.Bool.{cond_both, cond-true}
use Rattle.wbt_flusher.proofs.Common.{times_in, one_if}
use Rattle.wbt_book.specs.Ledger.{let_go}

pub times_append : (p : ℕ) (xs ys : List ℕ) → times_in p (xs ++ ys) ≡ times_in p xs + times_in p ys
times_append p [] ys = omega arith
times_append p (x ∷ xs) ys = let rest = times_append p xs ys in omega arith

pub one_of : (p q : ℕ) (l : List ℕ) → 1 ≤ times_in p (q ∷ l) → (p ≡ q) ⊎ (1 ≤ times_in p l)
one_of p q l some = cond_both (eqb p q) 1 0 (λ (n : ℕ). 1 ≤ n + times_in p l → (p ≡ q) ⊎ (1 ≤ times_in p l)) (λ is low. inl (eqb-true p q is)) (λ not low. inr (omega arith)) some

-- what stands in a filtered list passed, and stands in the list
pub record Passed (keep : ℕ → Bool) (p : ℕ) (l : List ℕ) : Type 0 where
  pub kept : keep p ≡ true
  pub there : 1 ≤ times_in p l

passed_by : (keep : ℕ → Bool) (p x : ℕ) (xs : List ℕ) (b : Bool) → b ≡ keep x → (1 ≤ times_in p (filter keep xs) → Passed keep p xs)
    → 1 ≤ times_in p (cond b (x ∷ filter keep xs) (filter keep xs)) → Passed keep p (x ∷ xs)
passed_by keep p x xs false is rest low = let more = rest low in let some = more.there in record { kept = more.kept; there = omega arith }
passed_by keep p x xs true is rest low = ⊎_elim
    (λ same. let one : one_if (eqb p x) ≡ 1 = cond-true (eqb p x) 1 0 (eq-eqb p x same) in record { kept = ap keep same ∙ sym is; there = omega arith })
    (λ behind. let more = rest behind in let some = more.there in record { kept = more.kept; there = omega arith }) (one_of p x (filter keep xs) low)

pub passed : (keep : ℕ → Bool) (p : ℕ) (l : List ℕ) → 1 ≤ times_in p (filter keep l) → Passed keep p l
passed keep p [] some = absurd (omega arith)
passed keep p (x ∷ xs) some = passed_by keep p x xs (keep x) refl (passed keep p xs) some

fewer_by : (p q x : ℕ) (xs : List ℕ) (b : Bool) → b ≡ eqb p x → (1 ≤ times_in p xs → times_in q (let_go p xs) + one_if (eqb q p) ≡ times_in q xs)
    → 1 ≤ one_if (eqb p x) + times_in p xs → times_in q (cond b xs (x ∷ let_go p xs)) + one_if (eqb q p) ≡ one_if (eqb q x) + times_in q xs
fewer_by p q x xs true is rest some = let same : one_if (eqb q p) ≡ one_if (eqb q x) = ap (λ (n : ℕ). one_if (eqb q n)) (eqb-true p x (sym is)) in omega arith
fewer_by p q x xs false is rest some = let none : one_if (eqb p x) ≡ 0 = ap one_if (sym is) in let less = rest (omega arith) in omega arith

-- without its first p
pub fewer : (p : ℕ) (l : List ℕ) → 1 ≤ times_in p l → (q : ℕ) → times_in q (let_go p l) + one_if (eqb q p) ≡ times_in q l
fewer p [] some q = absurd (omega arith)
fewer p (x ∷ xs) some q = fewer_by p q x xs (eqb p x) refl (λ low. fewer p xs low q) some

first_left : (xs : List ℕ) (n : ℕ) → n < length xs → drop n xs ≡ get_or xs n 0 ∷ drop (suc n) xs
first_left [] n less = absurd (omega arith)
first_left (x ∷ xs) zero less = refl
first_left (x ∷ xs) (suc n) less = first_left xs n (omega arith)

pub drop_at : (xs : List ℕ) (n : ℕ) → n < length xs → drop n xs ≡ get_or xs n 0 ∷ drop (n + 1) xs
drop_at xs n less = first_left xs n less ∙ ap (λ (k : ℕ). get_or xs n 0 ∷ drop k xs) (let one : suc n ≡ n + 1 = omega arith in one)
