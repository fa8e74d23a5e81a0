-- What the steps on counters leave of their CPU's record, and of the seat that makes them.
use Rattle.std.proofs.Common.{◌≡◌, ℕ, ◌+◌, ◌^◌, ◌<◌, ◌≤◌, false, eqb, List, ◌∷◌, Option, Some, None, ℤ, pos, negsuc, ◌+ℤ◌, ◌-ℤ◌, unsigned_abs, FitsSigned, to_z, of_z, to_z-of_z, w64, sym, refl, ap, ◌∙◌, subst, arith, eq-eqb, ne_eqb}
use Rattle.std.proofs.lemmas.Bool.{cond-true, cond-false}
use Rattle.std.proofs.lemmas.Int.{ints}
use Rattle.wbt_table.proofs.Common.{TableId, Counter, Debt, Event, FoldDue, ClearDue, Owed, IsPackable, own_word, version_in, local_in, amount, to_clear, is_same, debt_to, is_same-itself, net, CpuRecord, Setting, covers, batch_of, Step, add, fold, clear, maker_of, own_told, record_after, setting, Has, Holds, given, Sat, Turned, Found, turn, Seated, Changes, Makes, Keeps, with_grants, States, Knows, IsSeat, seated, put_state, stepped, with_due, OwesFirst}
use Rattle.wbt_counter.specs.declared.record.Fold.{Fold}
use Rattle.wbt_counter.specs.Addends.{HasRoom}
use Rattle.wbt_counter.specs.Counters.{with_debt, without_debt, folds_of}
use Rattle.wbt_counter.specs.Recorded as counter
use Rattle.wbt_counter.proofs.WordLaws.{own_word_fits, near_has_room}
use Rattle.wbt_book.specs.declared.event.Event.{Event as PageEvent}
use Rattle.wbt_grant.proofs.Ranges.{batch_fits}
use Rattle.wbt_grant.proofs.Seats.{own_is_told, words_are_read}
use Rattle.wbt_table.specs.declared.layout.Layout.{Layout}
use Rattle.wbt_table.specs.declared.rule.Granted.{Granted}
use Rattle.wbt_table.specs.declared.rule.View.{View}
use Rattle.wbt_table.specs.declared.state.CpuState.{CpuState}
use Rattle.wbt_table.specs.declared.state.Due.{Due}
use Rattle.wbt_table.specs.declared.state.Due.TheVariants as due
use Rattle.wbt_table.specs.declared.state.Slot.{Slot}
use Rattle.wbt_table.specs.declared.state.Slot.TheVariants.{First, Second, Third}
use Rattle.wbt_table.proofs.Seating.{lefts_stay, has_changed}
use Rattle.wbt_table.proofs.Keeping.{given_same, own_same}
use Rattle.wbt_table.proofs.Calling.{record_here, lefts_here, step_seat, step_changes, step_makes}
use Rattle.wbt_table.proofs.Slots.{StepsSlot, debt_here, with_here, without_here, with_stays, without_stays, keeps_given, keeps_slot}

-- own numbers, by what is owed, by events and by folds
module _ (set' : Setting) (y : Counter) where
  netted : (events : List PageEvent) → ℤ
  netted events = net (λ p. covers set' y (set'.home p)) events

  own_as : (r : CpuRecord) (debt : Debt) → debt_to y r.debts ≡ debt
      → own_told set' y r ≡ ((netted r.events -ℤ counter.sum_made (folds_of y r.folds)) -ℤ amount debt) +ℤ to_clear debt
  unfolding netted
  own_as r debt is = ap (λ (d : Debt). ((net (λ p. covers set' y (set'.home p)) r.events -ℤ counter.sum_made (folds_of y r.folds)) -ℤ amount d) +ℤ to_clear d) is

  own_stays : (r r' : CpuRecord) → debt_to y r'.debts ≡ debt_to y r.debts → folds_of y r'.folds ≡ folds_of y r.folds → r'.events ≡ r.events
      → own_told set' y r' ≡ own_told set' y r
  own_stays r r' debts folds events = λ i. counter.own_told (record {
    owes = debts i;
    net = net (λ p. covers set' y (set'.home p)) (events i);
    page_steps = r.page_steps;
    folds = folds i;
  })

  own_added : (a m s : ℤ) → ((m -ℤ s) -ℤ pos 0) +ℤ pos 0 ≡ (((m -ℤ s) -ℤ a) +ℤ pos 0) +ℤ a
  own_added a m s = omega (arith, ints)

  -- once an event is added it is part of the own number
  pub own_grows : (r r' : CpuRecord) (a : ℤ) → debt_to y r.debts ≡ Event a → debt_to y r'.debts ≡ FoldDue → r'.folds ≡ r.folds → r'.events ≡ r.events
      → own_told set' y r' ≡ own_told set' y r +ℤ a
  own_grows r r' a owed owes folds events = own_as r' FoldDue owes
      ∙ (λ i. ((netted (events i) -ℤ counter.sum_made (folds_of y (folds i))) -ℤ pos 0) +ℤ pos 0)
      ∙ own_added a (netted r.events) (counter.sum_made (folds_of y r.folds)) ∙ ap (λ (z : ℤ). z +ℤ a) (sym (own_as r (Event a) owed))

-- what an own word tells where its CPU finds it
pub record OwnFound (set' : Setting) (x : Counter) (n : ℕ) (r : CpuRecord) : Type 0 where
  pub fits : n < 2 ^ 33
  pub told : local_in n ≡ own_told set' x r
  pub units : (a : ℤ) → debt_to x r.debts ≡ Event a → unsigned_abs a ≡ 1
  pub few_cpus : set'.cpus ≤ 64

pub own_found : (key : Layout) (c : ℕ) (x : Counter) (n : ℕ) (grants : Option Granted) (q r : CpuRecord) (v : View)
    → Found (turn key (add c x) grants) n q v → given grants q ≡ r → OwnFound (setting key) x n r
own_found key c x n grants q r v f with_it =
    let set' : Setting = setting key in
    let s = f.state in
    let is : s.cpu c ≡ r = f.record_is ∙ with_it in
    let tells = own_is_told set' s f.rule c x in
    let few = f.lawful.few_cpus in
    let small = batch_fits set' x (omega arith) in
    let room = near_has_room (batch_of set' x) (s.own x c) (omega arith) tells.near in
    let less = own_word_fits (s.own x c) room in
    let found : own_word (s.own x c) ≡ n = f.found_is in
    record {
      fits = subst (λ (m : ℕ). m < 2 ^ 33) found less;
      told = ap local_in (sym found) ∙ (words_are_read set' s f.lawful f.rule).own x c ∙ tells.told ∙ ap (own_told set' x) is;
      units = λ a owed. tells.units a (ap (λ (z : CpuRecord). debt_to x z.debts) is ∙ owed);
      few_cpus = omega arith;
    }

-- a number as large as its batch can be folded
pub batch_is_packable : (set' : Setting) (x : Counter) (local : ℤ) → set'.cpus ≤ 64 → unsigned_abs local ≡ batch_of set' x → IsPackable local
batch_is_packable set' x local few is = let small = batch_fits set' x few in
    record { not_too_low = omega (arith, ints); not_too_high = omega (arith, ints) }

-- an own number and an event fit together
near_sum : (z e : ℤ) → HasRoom z → unsigned_abs e ≡ 1 → unsigned_abs (z +ℤ e) < 2 ^ 63
near_sum z e room unit = let low = room.not_too_low in let high = room.not_too_high in omega (arith, ints)

small_fits : (z : ℤ) → unsigned_abs z < 2 ^ 63 → FitsSigned w64 z
small_fits (pos n) less = record { sfits = less }
small_fits (negsuc n) less = record { sfits = omega arith }

sum_fits : (z e z' e' : ℤ) → z' ≡ z → e' ≡ e → HasRoom z → unsigned_abs e ≡ 1 → FitsSigned w64 (z' +ℤ e')
sum_fits z e z' e' is is' room unit = subst (λ (p : ℤ × ℤ). FitsSigned w64 (p.0 +ℤ p.1)) (λ i. (sym is i, sym is' i)) (small_fits (z +ℤ e) (near_sum z e room unit))

near_fits : (z : ℤ) → HasRoom z → FitsSigned w64 z
near_fits z room = let low = room.not_too_low in let high = room.not_too_high in small_fits z (omega (arith, ints))

-- their sum as the code computes it
abbrev pub summed : (z e : ℤ) → ℤ
summed z e = to_z w64 (of_z w64 (to_z w64 (of_z w64 z) +ℤ to_z w64 (of_z w64 e)))

-- which is that of the word's number and the event
pub record SumIs (n : ℕ) (z e : ℤ) : Type 0 where
  pub fits : FitsSigned w64 (to_z w64 (of_z w64 z) +ℤ to_z w64 (of_z w64 e))
  pub value : summed z e ≡ local_in n +ℤ e

pub sum_of_found : (n : ℕ) (z e : ℤ) → z ≡ local_in n → HasRoom z → FitsSigned w64 e → unsigned_abs e ≡ 1 → SumIs n z e
sum_of_found n z e told room fits_e unit =
    let z_is : to_z w64 (of_z w64 z) ≡ z = to_z-of_z (near_fits z room) in
    let e_is : to_z w64 (of_z w64 e) ≡ e = to_z-of_z fits_e in
    let fits = sum_fits z e _ _ z_is e_is room unit in
    record { fits = fits; value = to_z-of_z fits ∙ (λ i. z_is i +ℤ e_is i) ∙ ap (λ (y : ℤ). y +ℤ e) told }

-- the three steps, each as what it makes of its slot
module _ (key : Layout) (c : ℕ) (slot : Slot) (x : Counter) (n : ℕ) (r : CpuRecord) where
  pub clear_slot : (d : ℤ) (owes : OwesFirst key slot (record { counter = x; debt = ClearDue d }) r)
      → StepsSlot key slot x owes.more None r (record_after (setting key) (clear c x) n r)
  clear_slot d owes = record {
    steps = refl;
    page_steps = refl;
    debts = without_here key slot x (ClearDue d) r owes;
    mine = tt;
    own = λ y other. own_stays (setting key) y r (record_after (setting key) (clear c x) n r) (without_stays x y r.debts other) refl refl;
    lefts = λ w. refl;
  }

  folds_stay : (y : Counter) (made : Fold) (older : List Fold) → is_same y made.counter ≡ false → folds_of y (made ∷ older) ≡ folds_of y older
  folds_stay y made older different = cond-false (is_same y made.counter) ((made.version, made.delta) ∷ folds_of y older) (folds_of y older) different

  pub fold_slot : (delta : ℤ) (owes : OwesFirst key slot (record { counter = x; debt = FoldDue }) r) → own_told (setting key) x r ≡ delta
      → StepsSlot key slot x owes.more (Some (due.Clear delta)) r (record_after (setting key) (fold c x) n r)
  fold_slot delta owes told = record {
    steps = refl;
    page_steps = refl;
    debts = with_here key slot x FoldDue r owes (ClearDue (own_told (setting key) x r))
        ∙ ap (λ (z : ℤ). record { counter = x; debt = ClearDue z } ∷ owes.more) told;
    mine = (owes.there, tt);
    own = λ y other. own_stays (setting key) y r (record_after (setting key) (fold c x) n r)
        (with_stays x y (ClearDue (own_told (setting key) x r)) r.debts other)
        (folds_stay y (record { counter = x; version = version_in n + 1; delta = own_told (setting key) x r }) r.folds other) refl;
    lefts = λ w. refl;
  }

  -- an addition after which the own number has reached the batch, or hasn't
  module _ (a local : ℤ) (owes : OwesFirst key slot (record { counter = x; debt = Event a }) r) (local_is : local ≡ local_in n +ℤ a) where
    sum_is : local_in n +ℤ amount (debt_to x r.debts) ≡ local
    sum_is = ap (λ (d : Debt). local_in n +ℤ amount d) (debt_here key slot x (Event a) r owes) ∙ sym local_is

    pub debts_reached : unsigned_abs local ≡ batch_of (setting key) x → (record_after (setting key) (add c x) n r).debts ≡ with_debt x FoldDue r.debts
    debts_reached is = cond-true (eqb (unsigned_abs (local_in n +ℤ amount (debt_to x r.debts))) (batch_of (setting key) x))
        (with_debt x FoldDue r.debts) (without_debt x r.debts) (eq-eqb _ _ (ap unsigned_abs sum_is ∙ is))

    pub debts_paid : (unsigned_abs local ≡ batch_of (setting key) x → ⊥) → (record_after (setting key) (add c x) n r).debts ≡ without_debt x r.debts
    debts_paid ne = cond-false (eqb (unsigned_abs (local_in n +ℤ amount (debt_to x r.debts))) (batch_of (setting key) x))
        (with_debt x FoldDue r.debts) (without_debt x r.debts) (ne_eqb _ _ (λ e. ne (ap unsigned_abs (sym sum_is) ∙ e)))

    pub own_reached : unsigned_abs local ≡ batch_of (setting key) x → local_in n ≡ own_told (setting key) x r
        → own_told (setting key) x (record_after (setting key) (add c x) n r) ≡ local
    own_reached is told = own_grows (setting key) x r (record_after (setting key) (add c x) n r) a (debt_here key slot x (Event a) r owes)
        (ap (debt_to x) (debts_reached is) ∙ cond-true (is_same x x) FoldDue (debt_to x (without_debt x r.debts)) (is_same-itself x)) refl refl
        ∙ ap (λ (z : ℤ). z +ℤ a) (sym told) ∙ sym local_is

    pub reached_slot : unsigned_abs local ≡ batch_of (setting key) x → OwnFound (setting key) x n r
        → StepsSlot key slot x owes.more (Some (due.Fold local)) r (record_after (setting key) (add c x) n r)
    reached_slot is found = record {
      steps = refl;
      page_steps = refl;
      debts = debts_reached is ∙ with_here key slot x (Event a) r owes FoldDue;
      mine = (owes.there, (own_reached is found.told, batch_is_packable (setting key) x local found.few_cpus is));
      own = λ y other. own_stays (setting key) y r (record_after (setting key) (add c x) n r)
          (ap (debt_to y) (debts_reached is) ∙ with_stays x y FoldDue r.debts other) refl refl;
      lefts = λ w. refl;
    }

    pub paid_slot : (unsigned_abs local ≡ batch_of (setting key) x → ⊥)
        → StepsSlot key slot x owes.more None r (record_after (setting key) (add c x) n r)
    paid_slot ne = record {
      steps = refl;
      page_steps = refl;
      debts = debts_paid ne ∙ without_here key slot x (Event a) r owes;
      mine = tt;
      own = λ y other. own_stays (setting key) y r (record_after (setting key) (add c x) n r)
          (ap (debt_to y) (debts_paid ne) ∙ without_stays x y r.debts other) refl refl;
      lefts = λ w. refl;
    }

kept_bare : (slot : Slot) (o : Option Due) (s : CpuState) → (with_due slot o (stepped s)).grants ≡ None
kept_bare First o s = refl
kept_bare Second o s = refl
kept_bare Third o s = refl

-- the seat before and after a step of one slot, by the record that is shown
module _ (key : Layout) (table : TableId) (me : Sat) (states : States) (lefts : List ℕ) (timer : Option ℕ) (old : Seated)
    (view : seated table me states ≡ old) (at : old.layout ≡ key) (seat : IsSeat me states lefts timer) (c : ℕ)
    (r : CpuRecord) (has : Has old.cpus c r) (s : CpuState) (knows : Knows states c s) where
  pub keeps_here : Keeps key c (record s { grants = None }) r
  keeps_here = let k = record_here key table me states lefts timer old view at seat c r has s knows in
      subst (λ (z : CpuRecord). Keeps key c (record s { grants = None }) z) k.with_it (keeps_given key c s k.record' k.keeps)

  -- what the record shows of debts and own numbers is so in the view
  pub held_debts : (P : List Owed → Type 0) → P r.debts → Holds me.0.cpus c (λ q. P q.debts)
  held_debts P is = let k = record_here key table me states lefts timer old view at seat c r has s knows in
      (k.record', k.has, subst P (ap (λ (z : CpuRecord). z.debts) (sym k.with_it) ∙ (given_same s.grants k.record').debts) is)

  pub held_own : (x : Counter) (delta : ℤ) → own_told (setting key) x r ≡ delta → Holds me.0.cpus c (λ q. own_told (setting key) x q ≡ delta)
  held_own x delta is = let k = record_here key table me states lefts timer old view at seat c r has s knows in (
    k.record',
    k.has,
    sym (own_same (setting key) x k.record' (given s.grants k.record') (given_same s.grants k.record'))
        ∙ ap (own_told (setting key) x) k.with_it ∙ is,
  )

  pub own_found_here : (me' : Sat) (x : Counter) (n : ℕ) → Turned (turn key (add c x) s.grants) n me me' → OwnFound (setting key) x n r
  own_found_here me' x n turned = let k = record_here key table me states lefts timer old view at seat c r has s knows in
      own_found key c x n s.grants k.record' r me.0 (turned.found k.record' k.has) k.with_it

  module _ (me' : Sat) (step : Step) (n : ℕ) (is : c ≡ maker_of (setting key) step) (turned : Turned (turn key step s.grants) n me me')
      (slot : Slot) (o : Option Due) (states' : States) (puts : states' ≡ put_state c (with_due slot o (stepped s)) states) where
    pub slot_seat : (x : Counter) (debt : Debt) (owes : OwesFirst key slot (record { counter = x; debt = debt }) r)
        → StepsSlot key slot x owes.more o r (record_after (setting key) step n r) → IsSeat me' states' lefts timer
    slot_seat x debt owes steps =
        let after : CpuRecord = record_after (setting key) step n r in
        subst (λ (l : States). IsSeat me' l lefts timer) (sym puts)
        (step_seat key table me states lefts timer old view at seat c r has me' step n is s (with_due slot o (stepped s)) knows turned (kept_bare slot o s)
        (keeps_slot key c slot x debt s r after o keeps_here owes steps) lefts
        (lefts_stay key lefts old.cpus c r after (lefts_here key table me states lefts timer old view at seat c r has) has steps.lefts))

    slot_changes : (table' : TableId) → table' ≡ table → Changes c (record_after (setting key) step n) old (seated table' me' states')
    slot_changes table' same = subst (λ (l : States). Changes c (record_after (setting key) step n) old (seated table' me' l)) (sym puts)
        (step_changes key table me states lefts timer old view at seat c r has me' step n is s (with_due slot o (stepped s)) knows turned (kept_bare slot o s) table' same)

    pub slot_makes : (key' : Layout) → key ≡ key' → (table' : TableId) → table' ≡ table → Makes (setting key') step n old (seated table' me' states')
    slot_makes key' its table' same =
        subst (λ (z : Layout × States). Makes (setting z.0) step n old (seated table' me' z.1)) (λ i. (its i, sym puts i))
        (step_makes key table me states lefts timer old view at seat c r has me' step n is s (with_due slot o (stepped s)) knows turned (kept_bare slot o s) table' same)

    pub slot_holds : (table' : TableId) → table' ≡ table → (P : CpuRecord → Type 0) → P (record_after (setting key) step n r)
        → Holds (with_grants states' me'.0.cpus) c P
    slot_holds table' same P p = (
      record_after (setting key) step n r,
      has_changed c (record_after (setting key) step n) old (seated table' me' states') r (slot_changes table' same) has,
      p,
    )
