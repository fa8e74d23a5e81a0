-- Debts by slots: what stands in one, what comes after it, and what is kept once one of them has changed.
use Rattle.std.proofs.Common.{◌≡◌, ◌≢◌, ℕ, suc, ◌<◌, ◌≤◌, Bool, false, cond, not, eqb, List, [], ◌∷◌, ◌++◌, Option, Some, None, sym, refl, ap, ◌∙◌, subst, arith, ⊎_elim, ne_eqb, append-nil}
use Rattle.std.proofs.lemmas.List.{append_assoc}
use Rattle.std.proofs.lemmas.Bool.{cond_both, cond-true, cond-false, cases_Bool}
use Rattle.wbt_table.proofs.Common.{Counter, Domain, Context, Debt, Owed, is_same, debt_to, is_same-itself, CpuRecord, writer_in, one_more, own_told, setting, given, Keeps, IsTold, IsDue, debts_in, stepped, with_due, OwesFirst, OwesLater}
use Rattle.wbt_counter.specs.Counters.{without_debt, with_debt}
use Rattle.wbt_counter.proofs.Debts.{is_same-true, debts_are}
use Rattle.wbt_table.specs.declared.layout.Layout.{Layout}
use Rattle.wbt_table.specs.declared.state.CpuState.{CpuState}
use Rattle.wbt_table.specs.declared.state.Due.{Due}
use Rattle.wbt_table.specs.declared.state.Slot.{Slot}
use Rattle.wbt_table.specs.declared.state.Slot.TheVariants.{First, Second, Third}
use Rattle.wbt_table.specs.Seat.{counter_in, due_in, listed, debt_of}
use Rattle.wbt_table.specs.Settle.{rank, rank_of, AreFrom, OwesFrom}
use Rattle.wbt_table.proofs.Seating.{none_some}
use Rattle.wbt_table.proofs.Keeping.{told_follows, due_follows, given_same, given_steps, own_same}

-- the order of counters

pub rank_small : (x : Counter) → rank x ≤ 2
rank_small (Context k) = omega arith
rank_small (Domain d) = cond_both (eqb d 0) 1 2 (λ (n : ℕ). n ≤ 2) (λ t. omega arith) (λ t. omega arith)

unequal : (x y : Counter) → rank x ≢ rank y → is_same x y ≡ false
unequal x y ne = ⊎_elim (λ t. absurd (ne (ap rank (is_same-true x y t)))) (λ f. f) (cases_Bool (is_same x y))

pub all_from : (debts : List Owed) → AreFrom 0 debts
all_from [] = tt
all_from (owed ∷ more) = (omega arith, all_from more)

pub none_from : (debts : List Owed) → AreFrom 3 debts → debts ≡ []
none_from [] from = refl
none_from (owed ∷ more) from = let least = from.0 in let small = rank_small owed.counter in absurd (omega arith)

-- debts to later counters stay where they are
rest_stays : (x : Counter) (more : List Owed) → AreFrom (suc (rank x)) more → without_debt x more ≡ more
rest_stays x [] later = refl
rest_stays x (owed ∷ more) later = let least = later.0 in
    ap (λ (b : Bool). cond (not b) (owed ∷ without_debt x more) (without_debt x more)) (unequal x owed.counter (λ e. absurd (omega arith)))
    ∙ ap (λ (l : List Owed). owed ∷ l) (rest_stays x more later.1)

-- what is owed to other counters stays
pub with_stays : (x y : Counter) (debt : Debt) (debts : List Owed) → is_same y x ≡ false → debt_to y (with_debt x debt debts) ≡ debt_to y debts
with_stays x y debt debts n = (debts_are x y debt debts).0 ∙ cond-false (is_same y x) debt (debt_to y debts) n

pub without_stays : (x y : Counter) (debts : List Owed) → is_same y x ≡ false → debt_to y (without_debt x debts) ≡ debt_to y debts
without_stays x y debts n = let free = (debts_are x y (debt_to y debts) debts).1 in free ∙ cond-false (is_same y x) _ (debt_to y debts) n

-- the debt that stands first
module _ (key : Layout) (slot : Slot) (x : Counter) (debt : Debt) (r : CpuRecord) (owes : OwesFirst key slot (record { counter = x; debt = debt }) r) where
  pub debt_here : debt_to x r.debts ≡ debt
  debt_here = ap (debt_to x) owes.debts ∙ cond-true (is_same x x) debt (debt_to x owes.more) (is_same-itself x)

  pub without_here : without_debt x r.debts ≡ owes.more
  without_here = ap (without_debt x) owes.debts
      ∙ ap (λ (b : Bool). cond (not b) (record { counter = x; debt = debt } ∷ without_debt x owes.more) (without_debt x owes.more)) (is_same-itself x)
      ∙ rest_stays x owes.more (subst (λ (n : ℕ). AreFrom (suc n) owes.more) (sym owes.in_slot) owes.later)

  pub with_here : (d : Debt) → with_debt x d r.debts ≡ record { counter = x; debt = d } ∷ owes.more
  with_here d = ap (λ (l : List Owed). record { counter = x; debt = d } ∷ l) without_here

  pub owes_next : (d : Debt) (r' : CpuRecord) → r'.debts ≡ with_debt x d r.debts → OwesFirst key slot (record { counter = x; debt = d }) r'
  owes_next d r' debts = record { there = owes.there; in_slot = owes.in_slot; more = owes.more; debts = debts ∙ with_here d; later = owes.later }

  pub owes_later : (r' : CpuRecord) → r'.debts ≡ without_debt x r.debts → OwesLater slot r'
  owes_later r' debts = subst (AreFrom (suc (rank_of slot))) (sym (debts ∙ without_here)) owes.later

-- what the code keeps, slot by slot

-- a counter of this place, where something is owed to it
abbrev IsRanked : (n : ℕ) (x : Counter) (due : Option Due) → Type 0
IsRanked n x None = Unit {0}
IsRanked n x (Some due) = rank x ≡ n

pub record AreRanked (s : CpuState) : Type 0 where
  pub first : IsRanked 0 (Context s.context) s.first
  pub second : IsRanked 1 (Domain 0) s.second
  pub third : IsRanked 2 (Domain s.group) s.third

ranked : (n : ℕ) (x : Counter) (due : Option Due) → rank x ≡ n → IsRanked n x due
ranked n x None is = tt
ranked n x (Some due) is = is

group_ranked : (d : ℕ) (due : Option Due) → (d ≡ 0 → due ≡ None) → IsRanked 2 (Domain d) due
group_ranked d None none = tt
group_ranked d (Some due) none = cond-false (eqb d 0) 1 2 (ne_eqb d 0 (λ e. none_some due (sym (none e))))

pub are_ranked : (key : Layout) (c : ℕ) (s : CpuState) (r : CpuRecord) → Keeps key c s r → AreRanked s
are_ranked key c s r keeps = record {
  first = ranked 0 (Context s.context) s.first refl;
  second = ranked 1 (Domain 0) s.second refl;
  third = group_ranked s.group s.third keeps.no_group;
}

abbrev NoneBefore : (slot : Slot) (s : CpuState) → Type 0
NoneBefore First s = Unit {0}
NoneBefore Second s = s.first ≡ None
NoneBefore Third s = (s.first ≡ None) × (s.second ≡ None)

abbrev later_debts : (slot : Slot) (s : CpuState) → List Owed
later_debts First s = listed (Domain 0) s.second ++ listed (Domain s.group) s.third
later_debts Second s = listed (Domain s.group) s.third
later_debts Third s = []

pub debts_by_slot : (slot : Slot) (s : CpuState) → NoneBefore slot s → debts_in s ≡ listed (counter_in slot s) (due_in slot s) ++ later_debts slot s
debts_by_slot First s none = append_assoc (listed (Context s.context) s.first) (listed (Domain 0) s.second) (listed (Domain s.group) s.third)
debts_by_slot Second s none = ap (λ (due : Option Due). listed (Context s.context) due ++ listed (Domain 0) s.second ++ listed (Domain s.group) s.third) none
debts_by_slot Third s none = (λ i. listed (Context s.context) (none.0 i) ++ listed (Domain 0) (none.1 i) ++ listed (Domain s.group) s.third)
    ∙ sym (append-nil (listed (Domain s.group) s.third))

last_from : (n m : ℕ) (x : Counter) (due : Option Due) → IsRanked n x due → m ≤ n → AreFrom m (listed x due)
last_from n m x None is less = tt
last_from n m x (Some due) is less = (omega arith, tt)

more_from : (n m : ℕ) (x : Counter) (due : Option Due) (l : List Owed) → IsRanked n x due → m ≤ n → AreFrom m l → AreFrom m (listed x due ++ l)
more_from n m x None l is less rest = rest
more_from n m x (Some due) l is less rest = (omega arith, rest)

none_if : (n m : ℕ) (x : Counter) (due : Option Due) (l : List Owed) → IsRanked n x due → n < m → AreFrom m (listed x due ++ l) → (due ≡ None) × AreFrom m l
none_if n m x None l is less from = (refl, from)
none_if n m x (Some due) l is less from = let least = from.0 in absurd (omega arith)

pub later_from : (slot : Slot) (s : CpuState) → AreRanked s → AreFrom (suc (rank_of slot)) (later_debts slot s)
later_from First s are = more_from 1 1 (Domain 0) s.second (listed (Domain s.group) s.third) are.second (omega arith)
    (last_from 2 1 (Domain s.group) s.third are.third (omega arith))
later_from Second s are = last_from 2 2 (Domain s.group) s.third are.third (omega arith)
later_from Third s are = tt

pub none_before : (slot : Slot) (s : CpuState) → AreRanked s → AreFrom (rank_of slot) (debts_in s) → NoneBefore slot s
none_before First s are from = tt
none_before Second s are from = (none_if 0 1 (Context s.context) s.first (listed (Domain 0) s.second ++ listed (Domain s.group) s.third) are.first (omega arith)
    (subst (AreFrom 1) (debts_by_slot First s tt) from)).0
none_before Third s are from = let first = none_if 0 2 (Context s.context) s.first (listed (Domain 0) s.second ++ listed (Domain s.group) s.third) are.first (omega arith)
    (subst (AreFrom 2) (debts_by_slot First s tt) from) in
    (first.0, (none_if 1 2 (Domain 0) s.second (listed (Domain s.group) s.third) are.second (omega arith) first.1).0)

-- the debt that stands first is one to the slot's counter, and what comes after it is what is kept of later slots
rest_is : (n : ℕ) (x : Counter) (due : Option Due) (later more : List Owed) (owed : Owed) → rank owed.counter ≡ n → AreFrom (suc n) later
    → listed x due ++ later ≡ owed ∷ more → (x ≡ owed.counter) × (more ≡ later)
rest_is n x None later more owed is from e = let least = (subst (AreFrom (suc n)) e from).0 in absurd (omega arith)
rest_is n x (Some due) later more owed is from e =
    let same : record { counter = x; debt = debt_of due } ≡ owed = cc in
    (ap (λ (o : Owed). o.counter) same, cc)

weaker : (n : ℕ) (l : List Owed) → AreFrom (suc n) l → AreFrom n l
weaker n [] h = tt
weaker n (owed ∷ l) h = let least = h.0 in (omega arith, weaker n l h.1)

module _ (key : Layout) (slot : Slot) (owed : Owed) (s : CpuState) (r : CpuRecord) (owes : OwesFirst key slot owed r) (are : AreRanked s) (debts : r.debts ≡ debts_in s) where
  pub before_first : NoneBefore slot s
  before_first = let is = owes.in_slot in
      none_before slot s are (subst (AreFrom (rank_of slot)) (sym owes.debts ∙ debts) (omega arith, weaker (rank_of slot) owes.more owes.later))

  here_first : (counter_in slot s ≡ owed.counter) × (owes.more ≡ later_debts slot s)
  here_first = rest_is (rank_of slot) (counter_in slot s) (due_in slot s) (later_debts slot s) owes.more owed owes.in_slot (later_from slot s are)
      (sym (debts_by_slot slot s before_first) ∙ sym debts ∙ owes.debts)

  pub counter_first : counter_in slot s ≡ owed.counter
  counter_first = here_first.0

  pub after_first : owes.more ≡ later_debts slot s
  after_first = here_first.1

-- what is kept before a step, with the grant that comes with it
abbrev bare : (s : CpuState) → CpuState
bare s = record s { grants = None }

pub keeps_given : (key : Layout) (c : ℕ) (s : CpuState) (q : CpuRecord) → Keeps key c s q → Keeps key c (bare s) (given s.grants q)
keeps_given key c s q old =
    let same = given_same s.grants q in
    let own = λ (x : Counter). own_same (setting key) x q (given s.grants q) same in record {
      steps = old.steps ∙ sym (given_steps s.grants q);
      page_steps = old.page_steps ∙ sym same.page_steps;
      debts = same.debts ∙ old.debts;
      first = due_follows key q (given s.grants q) own (Context s.context) s.first old.first;
      second = due_follows key q (given s.grants q) own (Domain 0) s.second old.second;
      third = due_follows key q (given s.grants q) own (Domain s.group) s.third old.third;
      no_group = old.no_group;
      grants = tt;
    }

-- debts of other slots stand as they stood where a step is about one counter
due_stays : (key : Layout) (x : Counter) (r r' : CpuRecord) (own : (y : Counter) → is_same y x ≡ false → own_told (setting key) y r' ≡ own_told (setting key) y r)
    (n : ℕ) (y : Counter) (due : Option Due) → IsRanked n y due → rank x ≢ n → IsDue key y due r → IsDue key y due r'
due_stays key x r r' own n y None is ne h = tt
due_stays key x r r' own n y (Some due) is ne h = (h.0, told_follows (setting key) y due r r' (own y (unequal y x (λ e. ne (sym e ∙ is)))) h.1)

-- a step that changes one slot's debt, and the own number of no other counter
pub record StepsSlot (key : Layout) (slot : Slot) (x : Counter) (more : List Owed) (due : Option Due) (r r' : CpuRecord) : Type 0 where
  pub steps : r'.steps ≡ one_more r.steps
  pub page_steps : r'.page_steps ≡ r.page_steps
  pub debts : r'.debts ≡ listed x due ++ more
  pub mine : IsDue key x due r'
  pub own : (y : Counter) → is_same y x ≡ false → own_told (setting key) y r' ≡ own_told (setting key) y r
  pub lefts : (w : ℕ) → (writer_in (setting key) w r'.writers).left ≡ (writer_in (setting key) w r.writers).left

-- such a step, by the record with the grant
module _ (key : Layout) (c : ℕ) (slot : Slot) (x : Counter) (debt : Debt) (s : CpuState) (r r' : CpuRecord) (due : Option Due) (old : Keeps key c (bare s) r)
    (owes : OwesFirst key slot (record { counter = x; debt = debt }) r) (step : StepsSlot key slot x owes.more due r r') where
  ranked_here : AreRanked (bare s)
  ranked_here = are_ranked key c (bare s) r old

  at_slot : counter_in slot (bare s) ≡ x
  at_slot = counter_first key slot (record { counter = x; debt = debt }) (bare s) r owes ranked_here old.debts

  before_slot : NoneBefore slot (bare s)
  before_slot = before_first key slot (record { counter = x; debt = debt }) (bare s) r owes ranked_here old.debts

  debts_after : r'.debts ≡ listed (counter_in slot (bare s)) due ++ later_debts slot (bare s)
  debts_after = step.debts ∙ (λ i. listed (sym at_slot i) due ++ after_first key slot (record { counter = x; debt = debt }) (bare s) r owes ranked_here old.debts i)

  mine_after : IsDue key (counter_in slot (bare s)) due r'
  mine_after = subst (λ (y : Counter). IsDue key y due r') (sym at_slot) step.mine

  stays : (n : ℕ) (y : Counter) (due' : Option Due) → IsRanked n y due' → rank_of slot ≢ n → IsDue key y due' r → IsDue key y due' r'
  stays n y due' is ne h = due_stays key x r r' step.own n y due' is (λ e. ne (sym owes.in_slot ∙ e)) h

  steps_after : one_more s.steps ≡ r'.steps
  steps_after = ap one_more old.steps ∙ sym step.steps

  pages_after : s.page_steps ≡ r'.page_steps
  pages_after = old.page_steps ∙ sym step.page_steps

pub keeps_slot : (key : Layout) (c : ℕ) (slot : Slot) (x : Counter) (debt : Debt) (s : CpuState) (r r' : CpuRecord) (due : Option Due) → Keeps key c (bare s) r
    → (owes : OwesFirst key slot (record { counter = x; debt = debt }) r) → StepsSlot key slot x owes.more due r r' → Keeps key c (with_due slot due (stepped s)) r'
keeps_slot key c First x debt s r r' due old owes step = let are = are_ranked key c (bare s) r old in record {
  steps = steps_after key c First x debt s r r' due old owes step;
  page_steps = pages_after key c First x debt s r r' due old owes step;
  debts = debts_after key c First x debt s r r' due old owes step ∙ sym (debts_by_slot First (with_due First due (stepped s)) tt);
  first = mine_after key c First x debt s r r' due old owes step;
  second = stays key c First x debt s r r' due old owes step 1 (Domain 0) s.second are.second (λ e. omega arith) old.second;
  third = stays key c First x debt s r r' due old owes step 2 (Domain s.group) s.third are.third (λ e. omega arith) old.third;
  no_group = old.no_group;
  grants = tt;
}
keeps_slot key c Second x debt s r r' due old owes step = let are = are_ranked key c (bare s) r old in record {
  steps = steps_after key c Second x debt s r r' due old owes step;
  page_steps = pages_after key c Second x debt s r r' due old owes step;
  debts = debts_after key c Second x debt s r r' due old owes step
      ∙ sym (debts_by_slot Second (with_due Second due (stepped s)) (before_slot key c Second x debt s r r' due old owes step));
  first = stays key c Second x debt s r r' due old owes step 0 (Context s.context) s.first are.first (λ e. omega arith) old.first;
  second = mine_after key c Second x debt s r r' due old owes step;
  third = stays key c Second x debt s r r' due old owes step 2 (Domain s.group) s.third are.third (λ e. omega arith) old.third;
  no_group = old.no_group;
  grants = tt;
}
keeps_slot key c Third x debt s r r' due old owes step = let are = are_ranked key c (bare s) r old in record {
  steps = steps_after key c Third x debt s r r' due old owes step;
  page_steps = pages_after key c Third x debt s r r' due old owes step;
  debts = debts_after key c Third x debt s r r' due old owes step
      ∙ sym (debts_by_slot Third (with_due Third due (stepped s)) (before_slot key c Third x debt s r r' due old owes step));
  first = stays key c Third x debt s r r' due old owes step 0 (Context s.context) s.first are.first (λ e. omega arith) old.first;
  second = stays key c Third x debt s r r' due old owes step 1 (Domain 0) s.second are.second (λ e. omega arith) old.second;
  third = mine_after key c Third x debt s r r' due old owes step;
  no_group = λ e.
      let two : rank (Domain s.group) ≡ 2 = ap rank (at_slot key c Third x debt s r r' due old owes step) ∙ owes.in_slot in
      let one : rank (Domain s.group) ≡ 1 = ap (λ (d : ℕ). rank (Domain d)) e in
      absurd (omega arith);
  grants = tt;
}

in_bare : (slot : Slot) (s : CpuState) → (counter_in slot (bare s) ≡ counter_in slot s) × (due_in slot (bare s) ≡ due_in slot s)
in_bare First s = (refl, refl)
in_bare Second s = (refl, refl)
in_bare Third s = (refl, refl)

slot_due : (key : Layout) (c : ℕ) (slot : Slot) (s : CpuState) (r : CpuRecord) → Keeps key c s r → IsDue key (counter_in slot s) (due_in slot s) r
slot_due key c First s r keeps = keeps.first
slot_due key c Second s r keeps = keeps.second
slot_due key c Third s r keeps = keeps.third

slot_ranked : (slot : Slot) (s : CpuState) → AreRanked s → IsRanked (rank_of slot) (counter_in slot s) (due_in slot s)
slot_ranked First s are = are.first
slot_ranked Second s are = are.second
slot_ranked Third s are = are.third

-- what a slot says of its record: nothing is owed to it, or this is owed first
module _ (key : Layout) (c : ℕ) (slot : Slot) (s : CpuState) (r : CpuRecord) (keeps : Keeps key c (bare s) r) (from : OwesFrom slot r) where
  are_here : AreRanked (bare s)
  are_here = are_ranked key c (bare s) r keeps

  debts_here : r.debts ≡ listed (counter_in slot s) (due_in slot s) ++ later_debts slot (bare s)
  debts_here = keeps.debts ∙ debts_by_slot slot (bare s) (none_before slot (bare s) are_here (subst (AreFrom (rank_of slot)) keeps.debts from))
      ∙ (λ i. listed ((in_bare slot s).0 i) ((in_bare slot s).1 i) ++ later_debts slot (bare s))

  pub none_owed : due_in slot s ≡ None → OwesLater slot r
  none_owed none = subst (AreFrom (suc (rank_of slot))) (sym (debts_here ∙ ap (λ (due : Option Due). listed (counter_in slot s) due ++ later_debts slot (bare s)) none))
      (later_from slot (bare s) are_here)

  module _ (due : Due) (is : due_in slot s ≡ Some due) where
    its_debt : IsDue key (counter_in slot s) (Some due) r
    its_debt = subst (λ (z : Counter × Option Due). IsDue key z.0 z.1 r) (λ i. ((in_bare slot s).0 i, ((in_bare slot s).1 ∙ is) i)) (slot_due key c slot (bare s) r keeps)

    its_rank : IsRanked (rank_of slot) (counter_in slot s) (Some due)
    its_rank = subst (λ (z : Counter × Option Due). IsRanked (rank_of slot) z.0 z.1) (λ i. ((in_bare slot s).0 i, ((in_bare slot s).1 ∙ is) i)) (slot_ranked slot (bare s) are_here)

    pub told_here : IsTold (setting key) (counter_in slot s) due r
    told_here = its_debt.1

    pub owes_here : OwesFirst key slot (record { counter = counter_in slot s; debt = debt_of due }) r
    owes_here = record {
      there = its_debt.0;
      in_slot = its_rank;
      more = later_debts slot (bare s);
      debts = debts_here ∙ ap (λ (o : Option Due). listed (counter_in slot s) o ++ later_debts slot (bare s)) is;
      later = later_from slot (bare s) are_here;
    }
