-- Sums of folds by counter and version, fold by fold and version by version.
use Rattle.std.proofs.Common.{◌≡◌, ℕ, ◌+◌, ◌-◌, ◌<◌, ◌≤◌, Bool, true, false, ◌==◌, nat_lt, nat_le, if◌then◌else◌, Option, Some, None, option_map, ℤ, pos, ◌+ℤ◌, List, [], ◌∷◌, ◌++◌, length, replicate, take, get_or, refl, ap, sym, subst, ◌∙◌, arith, tests, ◌⊎◌, inl, inr, add_assoc, append-nil, length-append}
use Rattle.std.specs.List.{slice_get}
use Rattle.std.proofs.Math.IntN.{+ℤ_assoc, +ℤ_comm}
use Rattle.std.proofs.lemmas.Bool.{cases_eq, cases_lt}
use Rattle.std.proofs.lemmas.List.{length-replicate, get_or-replicate, length-set, replicate_more, take_more}
use Rattle.std.proofs.lemmas.List.Elements.{filter-append}
use Rattle.std.proofs.lemmas.Option.{slice_get-get_or, slice_get_past, slice_get_within}
use Rattle.wbt_audit_walk.proofs.Common.{is_same, Counter, Fold, of_counter, row_of, cell, push_cell}
use Rattle.wbt_journal.specs.Counts.{sum_to}
use Rattle.wbt_audit_reads.specs.Counting.{sum_at}
use Rattle.wbt_audit_reads.specs.Summing.{AddsSome, AddsSomeRows, AddsUp, AreParts, AreSumsBy, AreZeros, Mixed, Parts, add_cell, add_to, all_mixed, before_at, fold_at, mixed, zero_more_at, one_zero_more, part_at, place_by, sum_of, with_before, with_fold}
use Rattle.wbt_audit_walk.specs.declared.places.Places.{Places}
use Rattle.wbt_audit_walk.proofs.Placing.{counters_apart}
use Rattle.wbt_audit_walk.proofs.Rowing.{cell-put_same, cell-put_place, row-set_same, row-set_other}

-- ---- tests

is_eq : (p q : ℕ) → p ≡ q → (p == q) ≡ true
is_eq p q e = grind (arith, tests, e)

is_apart : (p q : ℕ) → (p ≡ q → ⊥) → (p == q) ≡ false
is_apart p q e = grind (arith, tests, e)

lt_is : (v n : ℕ) → v < n → nat_lt v n ≡ true
lt_is v n lt = grind (arith, tests, lt)

lt_not : (v n : ℕ) → n ≤ v → nat_lt v n ≡ false
lt_not v n le = grind (arith, tests, le)

le_is : (v n : ℕ) → v ≤ n → nat_le v n ≡ true
le_is v n le = grind (arith, tests, le)

le_not : (v n : ℕ) → n < v → nat_le v n ≡ false
le_not v n lt = grind (arith, tests, lt)

lt_suc : (v n : ℕ) → nat_lt v (1 + n) ≡ nat_le v n
lt_suc v n = grind (arith, tests)

lt_other : (v i : ℕ) → (v ≡ i → ⊥) → nat_lt v i ≡ nat_lt v (i + 1)
lt_other v i apart = grind (arith, tests, apart)

from_le : (v n : ℕ) → nat_le v n ≡ true → v ≤ n
from_le v n is = grind (arith, tests, is)

none_some : {A : Type 0} (a : A) → None ≡ Some a → ⊥
none_some a e = cc

eq_le : (v : ℕ) → (v == 0) ≡ nat_le v 0
eq_le v = grind (arith, tests)

le_past : (v i most : ℕ) → v ≡ i → nat_le (i - 1) most ≡ false → nat_le v most ≡ false
le_past v i most e is = grind (arith, tests, e, is)

strict : (v i : ℕ) → (v ≡ i → ⊥) → i ≤ v → i < v
strict v i apart le = grind (arith, apart, le)

-- how a version stands to another: below it, it, or above it
data NextTests : (same below within : Bool) → Type 0 where
  lower : NextTests false true true
  equal : NextTests true false true
  upper : NextTests false false false

-- ---- a value with more added

if_map : (t : Bool) (a more : ℤ) → option_map (λ s. s +ℤ more) (if t then Some a else None) ≡ (if t then Some (a +ℤ more) else None)
if_map true a more = refl
if_map false a more = refl

same_by : (sums : List (List ℤ)) (place version : ℕ) (more : ℤ) (there : Option ℤ) → cell sums place version ≡ there
    → cell (add_to there sums place version more) place version ≡ option_map (λ s. s +ℤ more) there
same_by sums place version more None is = is
same_by sums place version more (Some sum) is = cell-put_same sums place version sum (sum +ℤ more) is

add-same : (sums : List (List ℤ)) (place version : ℕ) (more : ℤ) → cell (add_cell sums place version more) place version ≡ option_map (λ s. s +ℤ more) (cell sums place version)
add-same sums place version more = same_by sums place version more (cell sums place version) refl

place_by_there : (sums : List (List ℤ)) (place version other : ℕ) (more : ℤ) (there : Option ℤ) → cell sums place version ≡ there → (other ≡ version → ⊥)
    → cell (add_to there sums place version more) place other ≡ cell sums place other
place_by_there sums place version other more None is apart = refl
place_by_there sums place version other more (Some sum) is apart = cell-put_place sums place version other sum (sum +ℤ more) is apart

add-place : (sums : List (List ℤ)) (place version other : ℕ) (more : ℤ) → (other ≡ version → ⊥) → cell (add_cell sums place version more) place other ≡ cell sums place other
add-place sums place version other more apart = place_by_there sums place version other more (cell sums place version) refl apart

row_by : (sums : List (List ℤ)) (place version row : ℕ) (more : ℤ) (there : Option ℤ) → (row ≡ place → ⊥) → row_of (add_to there sums place version more) row ≡ row_of sums row
row_by sums place version row more None apart = refl
row_by sums place version row more (Some sum) apart = row-set_other sums place row _ apart

add-row : (sums : List (List ℤ)) (place version row : ℕ) (more : ℤ) → (row ≡ place → ⊥) → row_of (add_cell sums place version more) row ≡ row_of sums row
add-row sums place version row more apart = row_by sums place version row more (cell sums place version) apart

-- ---- a fold more

pushed : (t b : Bool) (e delta s r : ℤ) → r ≡ (if b then s +ℤ delta else s)
    → (if t then e +ℤ r else r) ≡ (if b then (if t then e +ℤ s else s) +ℤ delta else (if t then e +ℤ s else s))
pushed true true e delta s r is = ap (λ z. e +ℤ z) is ∙ sym (+ℤ_assoc e s delta)
pushed true false e delta s r is = ap (λ z. e +ℤ z) is
pushed false true e delta s r is = is
pushed false false e delta s r is = is

sum_of-push : (version : ℕ) (folds : List Fold) (fold : Fold) (b : Bool) → (fold.version == version) ≡ b
    → sum_of version (folds ++ fold ∷ []) ≡ (if b then sum_of version folds +ℤ fold.delta else sum_of version folds)
sum_of-push version [] fold true is = ap (λ t. if t then fold.delta +ℤ pos 0 else pos 0) is ∙ +ℤ_comm fold.delta (pos 0)
sum_of-push version [] fold false is = ap (λ t. if t then fold.delta +ℤ pos 0 else pos 0) is
sum_of-push version (f ∷ folds) fold b is = pushed (f.version == version) b f.delta fold.delta (sum_of version folds) (sum_of version (folds ++ fold ∷ [])) (sum_of-push version folds fold b is)

of_counter-more : (x : Counter) (folds : List Fold) (i : ℕ) (d fold : Fold) → i < length folds → fold ≡ get_or folds i d
    → of_counter x (take (i + 1) folds) ≡ of_counter x (take i folds) ++ (if is_same x fold.counter then fold ∷ [] else [])
of_counter-more x folds i d fold lt is =
    ap (of_counter x) (take_more folds i d lt)
    ∙ filter-append (λ (f : Fold). is_same x f.counter) (take i folds) (get_or folds i d ∷ [])
    ∙ ap (λ f. of_counter x (take i folds) ++ of_counter x (f ∷ [])) (sym is)

module _ (places : Places) (all : List Fold) (fold : Fold) (front : List Fold) (sums : List (List ℤ)) (x : Counter) (p : ℕ) (version : ℕ)
    (there : place_by places x ≡ Some p) (before : cell sums p version ≡ part_at x all front version) where
  -- what comes to the part of a counter
  abbrev part_with : (same : Bool) → ℤ
  part_with same = sum_of version (of_counter x front ++ (if same then fold ∷ [] else []))

  abbrev part_if : (a : ℤ) → Option ℤ
  part_if a = if nat_le version (length (of_counter x all)) then Some a else None

  none_more : part_if (part_with false) ≡ part_at x all front version
  none_more = ap (λ fs. if nat_le version (length (of_counter x all)) then Some (sum_of version fs) else None) (append-nil (of_counter x front))

  here_by : (b : Bool) → (fold.version == version) ≡ b → (version ≡ fold.version) ⊎ (version ≡ fold.version → ⊥)
      → cell (add_cell sums p fold.version fold.delta) p version ≡ part_if (part_with true)
  here_by b is (inl e) =
      ap (cell (add_cell sums p fold.version fold.delta) p) e
      ∙ add-same sums p fold.version fold.delta
      ∙ ap (λ v. option_map (λ s. s +ℤ fold.delta) (cell sums p v)) (sym e)
      ∙ ap (option_map (λ s. s +ℤ fold.delta)) before
      ∙ if_map (nat_le version (length (of_counter x all))) (sum_of version (of_counter x front)) fold.delta
      ∙ ap (λ a. if nat_le version (length (of_counter x all)) then Some a else None) (sym (sum_of-push version (of_counter x front) fold true (is_eq fold.version version (sym e))))
  here_by b is (inr apart) =
      add-place sums p fold.version version fold.delta apart
      ∙ before
      ∙ ap (λ a. if nat_le version (length (of_counter x all)) then Some a else None)
      (sym (sum_of-push version (of_counter x front) fold false (is_apart fold.version version (λ e. apart (sym e)))))

  at_row : (q : ℕ) → place_by places fold.counter ≡ Some q → (p ≡ q) ⊎ (p ≡ q → ⊥)
      → cell (add_cell sums q fold.version fold.delta) p version ≡ part_if (part_with (is_same x fold.counter))
  at_row q is (inl e) =
      ap (λ r. cell (add_cell sums r fold.version fold.delta) p version) (sym e)
      ∙ here_by (fold.version == version) refl (cases_eq version fold.version)
      ∙ ap (λ b. part_if (part_with b)) (sym ((counters_apart places.domains places.contexts).apart x fold.counter p q there is ∙ is_eq p q e))
  at_row q is (inr apart) =
      ap (λ r. slice_get r version) (add-row sums q fold.version p fold.delta apart)
      ∙ before
      ∙ sym none_more
      ∙ ap (λ b. part_if (part_with b)) (sym ((counters_apart places.domains places.contexts).apart x fold.counter p q there is ∙ is_apart p q apart))

  at_fold : (place : Option ℕ) → place_by places fold.counter ≡ place → cell (fold_at place fold sums) p version ≡ part_if (part_with (is_same x fold.counter))
  at_fold None is = before ∙ sym none_more ∙ ap (λ b. part_if (part_with b)) (sym ((counters_apart places.domains places.contexts).other x fold.counter p there is))
  at_fold (Some q) is = at_row q is (cases_eq p q)

-- all counters with a fold more
pub parts_on : (places : Places) (all folds : List Fold) (d : Fold) (i : ℕ) (sums new : List (List ℤ)) → new ≡ with_fold places (get_or folds i d) sums → i < length folds
    → AreParts places all (take i folds) sums → AreParts places all (take (i + 1) folds) new
parts_on places all folds d i sums new is lt are x p there version =
    let fold : Fold = get_or folds i d in
    ap (λ m. cell m p version) is
    ∙ at_fold places all fold (take i folds) sums x p version there (are x p there version) (place_by places fold.counter) refl
    ∙ ap (λ fs. if nat_le version (length (of_counter x all)) then Some (sum_of version fs) else None) (sym (of_counter-more x folds i d fold lt refl))

-- ---- zeros

slice_get-replicate : (n v : ℕ) (b : ℤ) → (v < n) ⊎ (n ≤ v) → slice_get (replicate n b) v ≡ (if nat_lt v n then Some b else None)
slice_get-replicate n v b (inl lt) =
    slice_get-get_or (replicate n b) v b (rw (length-replicate n b) lt)
    ∙ ap Some (get_or-replicate n v b b lt)
    ∙ sym (ap (λ t. if t then Some b else None) (lt_is v n lt))
slice_get-replicate n v b (inr le) =
    slice_get_past (replicate n b) v (rw (length-replicate n b) le)
    ∙ sym (ap (λ t. if t then Some b else None) (lt_not v n le))

pub parts_first : (places : Places) (folds : List Fold) (sums : List (List ℤ)) → AreZeros places folds sums → AreParts places folds [] sums
parts_first places folds sums zeros x p there version =
    let n : ℕ = length (of_counter x folds) in
    ap (λ r. slice_get r version) (zeros x p there)
    ∙ slice_get-replicate (1 + n) version (pos 0) (cases_lt version (1 + n))
    ∙ ap (λ t. if t then Some (pos 0) else None) (lt_suc version n)

module _ (places : Places) where
  pub zeros_first : AreZeros places [] (replicate (places.domains + places.contexts) (pos 0 ∷ []))
  zeros_first x p is =
      get_or-replicate (places.domains + places.contexts) p (pos 0 ∷ []) [] ((counters_apart places.domains places.contexts).within x p is)

  zero_row : (sums : List (List ℤ)) (front : List Fold) (fold : Fold) (x : Counter) (p q : ℕ) → length sums ≡ places.domains + places.contexts
      → place_by places x ≡ Some p → place_by places fold.counter ≡ Some q → row_of sums p ≡ replicate (1 + length (of_counter x front)) (pos 0) → (p ≡ q) ⊎ (p ≡ q → ⊥)
      → row_of (push_cell sums q (pos 0)) p ≡ replicate (1 + length (of_counter x front ++ (if is_same x fold.counter then fold ∷ [] else []))) (pos 0)
  zero_row sums front fold x p q room there here row (inl e) =
      let apart_is = counters_apart places.domains places.contexts in
      ap (row_of (push_cell sums q (pos 0))) e
      ∙ row-set_same sums q (row_of sums q ++ pos 0 ∷ []) (rw room (apart_is.within fold.counter q here))
      ∙ ap (λ r. row_of sums r ++ pos 0 ∷ []) (sym e)
      ∙ ap (λ r. r ++ pos 0 ∷ []) row
      ∙ replicate_more (1 + length (of_counter x front)) (pos 0)
      ∙ ap (λ n. replicate n (pos 0)) (add_assoc 1 (length (of_counter x front)) 1 ∙ ap (λ n. 1 + n) (sym (length-append (of_counter x front) (fold ∷ []))))
      ∙ ap (λ b. replicate (1 + length (of_counter x front ++ (if b then fold ∷ [] else []))) (pos 0)) (sym (apart_is.apart x fold.counter p q there here ∙ is_eq p q e))
  zero_row sums front fold x p q room there here row (inr apart) =
      row-set_other sums q p (row_of sums q ++ pos 0 ∷ []) apart
      ∙ row
      ∙ ap (λ fs. replicate (1 + length fs) (pos 0)) (sym (append-nil (of_counter x front)))
      ∙ ap (λ b. replicate (1 + length (of_counter x front ++ (if b then fold ∷ [] else []))) (pos 0))
      (sym ((counters_apart places.domains places.contexts).apart x fold.counter p q there here ∙ is_apart p q apart))

  zero_at : (sums : List (List ℤ)) (front : List Fold) (fold : Fold) (x : Counter) (p : ℕ) (place : Option ℕ) → length sums ≡ places.domains + places.contexts
      → place_by places x ≡ Some p → place_by places fold.counter ≡ place → row_of sums p ≡ replicate (1 + length (of_counter x front)) (pos 0)
      → row_of (zero_more_at place sums) p ≡ replicate (1 + length (of_counter x front ++ (if is_same x fold.counter then fold ∷ [] else []))) (pos 0)
  zero_at sums front fold x p None room there here row =
      row
      ∙ ap (λ fs. replicate (1 + length fs) (pos 0)) (sym (append-nil (of_counter x front)))
      ∙ ap (λ b. replicate (1 + length (of_counter x front ++ (if b then fold ∷ [] else []))) (pos 0)) (sym ((counters_apart places.domains places.contexts).other x fold.counter p there here))
  zero_at sums front fold x p (Some q) room there here row = zero_row sums front fold x p q room there here row (cases_eq p q)

  room_at : (place : Option ℕ) (sums : List (List ℤ)) → length (zero_more_at place sums) ≡ length sums
  room_at None sums = refl
  room_at (Some p) sums = length-set sums p (row_of sums p ++ pos 0 ∷ [])

  pub zeros_on : (d : Fold) (folds : List Fold) (sums new : List (List ℤ)) (i : ℕ) → new ≡ one_zero_more places (get_or folds i d) sums → i < length folds
      → length sums ≡ places.domains + places.contexts → AreZeros places (take i folds) sums
      → (length new ≡ places.domains + places.contexts) × AreZeros places (take (i + 1) folds) new
  zeros_on d folds sums new i is lt room are =
      let fold : Fold = get_or folds i d in (
        ap length is ∙ room_at (place_by places fold.counter) sums ∙ room,
        λ x p there.
            ap (λ m. row_of m p) is
            ∙ zero_at sums (take i folds) fold x p (place_by places fold.counter) room there refl (are x p there)
            ∙ ap (λ fs. replicate (1 + length fs) (pos 0)) (sym (of_counter-more x folds i d fold lt refl)),
      )

-- ---- a version more

sum_zero : (folds : List Fold) → sum_of 0 folds ≡ sum_to 0 folds
sum_zero [] = refl
sum_zero (fold ∷ folds) =
    ap (λ s. if fold.version == 0 then fold.delta +ℤ s else s) (sum_zero folds)
    ∙ ap (λ b. if b then fold.delta +ℤ sum_to 0 folds else sum_to 0 folds) (eq_le fold.version)

next_by : (same below within : Bool) (delta part low high : ℤ) → part +ℤ low ≡ high → NextTests same below within
    → (if same then delta +ℤ part else part) +ℤ (if below then delta +ℤ low else low) ≡ (if within then delta +ℤ high else high)
next_by _ _ _ delta part low high is lower =
    sym (+ℤ_assoc part delta low) ∙ ap (λ s. s +ℤ low) (+ℤ_comm part delta) ∙ +ℤ_assoc delta part low ∙ ap (λ s. delta +ℤ s) is
next_by _ _ _ delta part low high is equal = +ℤ_assoc delta part low ∙ ap (λ s. delta +ℤ s) is
next_by _ _ _ delta part low high is upper = is

tests_of : (v i : ℕ) → 1 ≤ i → (v ≡ i) ⊎ (v ≡ i → ⊥) → (v < i) ⊎ (i ≤ v) → NextTests (v == i) (nat_le v (i - 1)) (nat_le v i)
tests_of v i some (inl e) either =
    subst (λ a. NextTests a (nat_le v (i - 1)) (nat_le v i)) (sym (is_eq v i e))
    (subst (λ b. NextTests true b (nat_le v i)) (sym (le_not v (i - 1) (omega (arith, e, some))))
    (subst (λ c. NextTests true false c) (sym (le_is v i (omega (arith, e)))) equal))
tests_of v i some (inr apart) (inl lt) =
    subst (λ a. NextTests a (nat_le v (i - 1)) (nat_le v i)) (sym (is_apart v i apart))
    (subst (λ b. NextTests false b (nat_le v i)) (sym (le_is v (i - 1) (omega (arith, lt, some))))
    (subst (λ c. NextTests false true c) (sym (le_is v i (omega (arith, lt)))) lower))
tests_of v i some (inr apart) (inr le) =
    let lt : i < v = strict v i apart le in
    subst (λ a. NextTests a (nat_le v (i - 1)) (nat_le v i)) (sym (is_apart v i apart))
    (subst (λ b. NextTests false b (nat_le v i)) (sym (le_not v (i - 1) (omega (arith, lt))))
    (subst (λ c. NextTests false false c) (sym (le_not v i lt)) upper))

sum_next : (folds : List Fold) (i : ℕ) → 1 ≤ i → sum_of i folds +ℤ sum_to (i - 1) folds ≡ sum_to i folds
sum_next [] i some = refl
sum_next (fold ∷ folds) i some =
    next_by (fold.version == i) (nat_le fold.version (i - 1)) (nat_le fold.version i) fold.delta (sum_of i folds) (sum_to (i - 1) folds) (sum_to i folds)
    (sum_next folds i some) (tests_of fold.version i some (cases_eq fold.version i) (cases_lt fold.version i))

mixed_next : (folds : List Fold) (i v : ℕ) → (v ≡ i → ⊥) → mixed folds i v ≡ mixed folds (i + 1) v
mixed_next folds i v apart = ap (λ b. if b then sum_to v folds else sum_of v folds) (lt_other v i apart)

mixed_low : (folds : List Fold) (i v : ℕ) → v < i → mixed folds i v ≡ sum_to v folds
mixed_low folds i v lt = ap (λ b. if b then sum_to v folds else sum_of v folds) (lt_is v i lt)

mixed_high : (folds : List Fold) (i v : ℕ) → i ≤ v → mixed folds i v ≡ sum_of v folds
mixed_high folds i v le = ap (λ b. if b then sum_to v folds else sum_of v folds) (lt_not v i le)

-- a value where a test holds
abbrev some_if : (t : Bool) (a : ℤ) → Option ℤ
some_if t a = if t then Some a else None

module _ (place i : ℕ) (some : 1 ≤ i) (sums : List (List ℤ)) where
  unchanged : (before : Option ℤ) (row : ℕ) → (row ≡ place → ⊥) → row_of (before_at before place i sums) row ≡ row_of sums row
  unchanged None row apart = refl
  unchanged (Some b) row apart = add-row sums place i row b apart

  module _ (folds : List Fold) (most : ℕ) (so_far : Mixed folds most i (cell sums place)) where
    with_sum : (v : ℕ) → (v ≡ i) ⊎ (v ≡ i → ⊥) → cell (add_cell sums place i (sum_to (i - 1) folds)) place v ≡ some_if (nat_le v most) (mixed folds (i + 1) v)
    with_sum v (inl e) =
        ap (cell (add_cell sums place i (sum_to (i - 1) folds)) place) e
        ∙ add-same sums place i (sum_to (i - 1) folds)
        ∙ ap (option_map (λ s. s +ℤ sum_to (i - 1) folds)) (so_far i)
        ∙ if_map (nat_le i most) (mixed folds i i) (sum_to (i - 1) folds)
        ∙ ap (some_if (nat_le i most))
        (ap (λ s. s +ℤ sum_to (i - 1) folds) (mixed_high folds i i (omega arith)) ∙ sum_next folds i some ∙ sym (mixed_low folds (i + 1) i (omega arith)))
        ∙ ap (λ n. some_if (nat_le n most) (mixed folds (i + 1) n)) (sym e)
    with_sum v (inr apart) =
        add-place sums place i v (sum_to (i - 1) folds) apart ∙ so_far v ∙ ap (some_if (nat_le v most)) (mixed_next folds i v apart)

    without : (v : ℕ) → nat_le (i - 1) most ≡ false → (v ≡ i) ⊎ (v ≡ i → ⊥) → cell sums place v ≡ some_if (nat_le v most) (mixed folds (i + 1) v)
    without v past (inl e) =
        let isnt : nat_le v most ≡ false = le_past v i most e past in
        so_far v ∙ ap (λ t. some_if t (mixed folds i v)) isnt ∙ sym (ap (λ t. some_if t (mixed folds (i + 1) v)) isnt)
    without v past (inr apart) = so_far v ∙ ap (some_if (nat_le v most)) (mixed_next folds i v apart)

    by_before : (t : Bool) → nat_le (i - 1) most ≡ t → (v : ℕ) → cell (with_before place i sums) place v ≡ some_if (nat_le v most) (mixed folds (i + 1) v)
    by_before true is v =
        ap (λ b. cell (before_at b place i sums) place v)
        (so_far (i - 1) ∙ ap (λ t. some_if t (mixed folds i (i - 1))) is ∙ ap Some (mixed_low folds i (i - 1) (omega (arith, some))))
        ∙ with_sum v (cases_eq v i)
    by_before false is v =
        ap (λ b. cell (before_at b place i sums) place v) (so_far (i - 1) ∙ ap (λ t. some_if t (mixed folds i (i - 1))) is)
        ∙ without v is (cases_eq v i)

pub up_on : (place i : ℕ) (old sums new : List (List ℤ)) → new ≡ with_before place i sums → 1 ≤ i → AddsSome place i old sums → AddsSome place (i + 1) old new
up_on place i old sums new is some so_far = record {
  here = λ folds most parts v.
      ap (λ t. cell t place v) is ∙ by_before place i some sums folds most (so_far.here folds most parts) (nat_le (i - 1) most) refl v;
  other = λ row apart. ap (λ t. row_of t row) is ∙ unchanged place i some sums (cell sums place (i - 1)) row apart ∙ so_far.other row apart;
}

first_mixed : (folds : List Fold) (v : ℕ) → (v < 1) ⊎ (1 ≤ v) → sum_of v folds ≡ mixed folds 1 v
first_mixed folds v (inl lt) =
    let none : v ≡ 0 = omega (arith, lt) in
    ap (λ n. sum_of n folds) none ∙ sum_zero folds ∙ ap (λ n. sum_to n folds) (sym none) ∙ sym (mixed_low folds 1 v lt)
first_mixed folds v (inr le) = sym (mixed_high folds 1 v le)

pub up_first : (place : ℕ) (sums : List (List ℤ)) → AddsSome place 1 sums sums
up_first place sums = record {
  here = λ folds most parts v. parts v ∙ ap (some_if (nat_le v most)) (first_mixed folds v (cases_lt v 1));
  other = λ row apart. refl;
}

last_mixed : (place upto : ℕ) (old : List (List ℤ)) (folds : List Fold) (most v : ℕ) (t : Bool) → nat_le v most ≡ t → length (row_of old place) ≤ upto → Parts folds most (cell old place)
    → some_if t (mixed folds upto v) ≡ some_if t (sum_to v folds)
last_mixed place upto old folds most v false is le parts = refl
last_mixed place upto old folds most v true is le parts =
    let there : most < length (row_of old place) =
    slice_get_within (row_of old place) most (sum_of most folds) (parts most ∙ ap (λ t. some_if t (sum_of most folds)) (le_is most most (omega arith))) in
    let at : v ≤ most = from_le v most is in
    ap Some (mixed_low folds upto v (omega (arith, there, at, le)))

pub up_last : (place upto : ℕ) (old new : List (List ℤ)) → length (row_of old place) ≤ upto → AddsSome place upto old new → AddsUp place old new
up_last place upto old new le some = record {
  here = λ folds most parts v. some.here folds most parts v ∙ last_mixed place upto old folds most v (nat_le v most) refl le parts;
  other = some.other;
}

-- ---- all rows

module _ (places : Places) where
  pub rows_first : (sums : List (List ℤ)) → AddsSomeRows places 0 sums sums
  rows_first sums folds parts x p there v = parts x p there v ∙ ap (λ b. if b then sum_at x folds v else part_at x folds folds v) (sym (lt_not p 0 (omega arith)))

  row_up : (i : ℕ) (old sums new : List (List ℤ)) (folds : List Fold) (x : Counter) (p v : ℕ) → AddsUp i sums new
      → ((w : ℕ) → cell sums p w ≡ all_mixed x folds p i w) → (p ≡ i) ⊎ (p ≡ i → ⊥) → cell new p v ≡ all_mixed x folds p (i + 1) v
  row_up i old sums new folds x p v up before (inl e) =
      ap (λ r. cell new r v) e
      ∙ up.here (of_counter x folds) (length (of_counter x folds))
      (λ w. ap (λ r. cell sums r w) (sym e) ∙ before w ∙ ap (λ b. if b then sum_at x folds w else part_at x folds folds w) (lt_not p i (omega (arith, e)))) v
      ∙ ap (λ b. if b then sum_at x folds v else part_at x folds folds v) (sym (lt_is p (i + 1) (omega (arith, e))))
  row_up i old sums new folds x p v up before (inr apart) =
      ap (λ r. slice_get r v) (up.other p apart)
      ∙ before v
      ∙ ap (λ b. if b then sum_at x folds v else part_at x folds folds v) (lt_other p i apart)

  pub rows_on : (i : ℕ) (old sums new : List (List ℤ)) → AddsUp i sums new → AddsSomeRows places i old sums → AddsSomeRows places (i + 1) old new
  rows_on i old sums new up so_far folds parts x p there v = row_up i old sums new folds x p v up (so_far folds parts x p there) (cases_eq p i)

  pub rows_last : (upto : ℕ) (old new : List (List ℤ)) → places.domains + places.contexts ≤ upto → AddsSomeRows places upto old new
      → (folds : List Fold) → AreParts places folds folds old → AreSumsBy places folds new
  rows_last upto old new le so_far folds parts x p there v =
      let within : p < places.domains + places.contexts = (counters_apart places.domains places.contexts).within x p there in
      so_far folds parts x p there v ∙ ap (λ b. if b then sum_at x folds v else part_at x folds folds v) (lt_is p upto (omega (arith, within, le)))
