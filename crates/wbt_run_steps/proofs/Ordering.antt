-- Debts are paid in the order in which they stand, and each fold is of a whole number.
use Rattle.std.proofs.Common.{◌≡◌, ℕ, Bool, cond, ◌==◌, not, List, [], ◌∷◌, ◌++◌, map, ◌⊎◌, inl, inr, ⊎_elim, Some, None, ℤ, pos, ◌+ℤ◌, ◌-ℤ◌, sym, refl, ap, ◌∙◌, subst, arith, eq-eqb, ne_eqb, true≢false}
use Rattle.std.proofs.lemmas.Bool.{cond_both, cond-true}
use Rattle.std.proofs.lemmas.Int.{ints}
use Rattle.wbt_counter.specs.Account.{amount, to_clear}
use Rattle.wbt_kit.proofs.Common.{with_debt, without_debt, Counter, Domain, Debt, Free, Event, FoldDue, ClearDue, Fold, Owed, Step, add, clear, fold, record_after, Setting, counters_of, CpuRecord, Made, PayInOrder, Pays, Settles, record_of, Settled}
use Rattle.wbt_counter.specs.Counters.{debt_to, folds_of, is_same}
use Rattle.wbt_counter.specs.Recorded.{sum_made}
use Rattle.wbt_counter.specs.declared.counter.Counter.TheVariants.{Context}
use Rattle.wbt_counter.proofs.Debts.{is_same-itself}
use Rattle.wbt_grant.specs.Seats.{own_told}
use Rattle.wbt_grant.specs.State.{account_of}
use Rattle.wbt_run_laws.specs.Steps.{fold_made}
use Rattle.wbt_run_steps.specs.Debts.{AreOnce, ArePaid, ArePaidInTurn, AreWhole, owed_to}
use Rattle.wbt_run_steps.proofs.Settling.{in_order, turned_is_told, turned_round}

abbrev pub owed : (x : Counter) (d : Debt) → Owed
owed x d = record { counter = x; debt = d }

-- ---- the debts of a page

pub page_once : (set : Setting) (k : ℕ) (a : ℤ) → AreOnce (map (λ (x : Counter). owed x (Event a)) (counters_of set k))
page_once set k a =
    let g = set.group k in
    cond_both (g == 0) [] (Domain g ∷ []) (λ (l : List Counter). AreOnce (map (λ (x : Counter). owed x (Event a)) (Context k ∷ Domain 0 ∷ l)))
    (λ is. (refl, (refl, tt)))
    (λ none. (refl, (ap (λ (b : Bool). cond (not b) (owed (Domain g) (Event a) ∷ []) []) (ne_eqb 0 g (λ e. true≢false (sym (eq-eqb g 0 (sym e)) ∙ none))), (refl, tt))))

-- ---- one step

-- without the first debt
pub drop_first : (x : Counter) (d : Debt) (more : List Owed) → without_debt x more ≡ more → without_debt x (owed x d ∷ more) ≡ more
drop_first x d more once = ap (λ (b : Bool). cond (not b) (owed x d ∷ without_debt x more) (without_debt x more)) (is_same-itself x) ∙ once

-- the step that pays the debt that stands first
pub by_first : (c : ℕ) (P : List Owed → Step → Type 0) → ((x : Counter) (a : ℤ) (more : List Owed) → P (owed x (Event a) ∷ more) (add c x))
    → ((x : Counter) (more : List Owed) → P (owed x FoldDue ∷ more) (fold c x))
    → ((x : Counter) (d : ℤ) (more : List Owed) → P (owed x (ClearDue d) ∷ more) (clear c x))
    → (debts : List Owed) (step : Step) → Pays c step debts → P debts step
by_first c P adds folds clears [] step pay = absurd pay
by_first c P adds folds clears (o ∷ more) step pay = by o.debt pay
  where
    by : (d : Debt) → Pays c step (owed o.counter d ∷ more) → P (owed o.counter d ∷ more) step
    by Free pay = absurd pay
    by (Event a) pay = subst (λ (s : Step). P (owed o.counter (Event a) ∷ more) s) (sym pay) (adds o.counter a more)
    by FoldDue pay = subst (λ (s : Step). P (owed o.counter FoldDue ∷ more) s) (sym pay) (folds o.counter more)
    by (ClearDue d) pay = subst (λ (s : Step). P (owed o.counter (ClearDue d) ∷ more) s) (sym pay) (clears o.counter d more)

-- the fold that a step makes, and those of steps in order
abbrev pub fold_by : (set : Setting) (step : Step) (n : ℕ) (r : CpuRecord) → List Fold
fold_by set (fold i x) n r = fold_made set x n r ∷ []
fold_by set other n r = []

abbrev pub folds_by : (set : Setting) (made : List Made) (r : CpuRecord) → List Fold
folds_by set [] r = []
folds_by set (m ∷ made) r = fold_by set m.step m.found r ++ folds_by set made (record_after set m.step m.found r)

-- ---- in turn

-- a number that is folded is only cleared, and no further fold of it is made
abbrev FirstInTurn : (d : Debt) (x : Counter) (more : List Counter) (folds : List Fold) (left : List Counter) → Type 0
FirstInTurn (ClearDue d) x more folds left = ArePaidInTurn more folds left ⊎ ((folds ≡ []) × (left ≡ x ∷ more))
FirstInTurn other x more folds left = ArePaidInTurn (x ∷ more) folds left

abbrev InTurn : (debts : List Owed) (folds : List Fold) (left : List Counter) → Type 0
InTurn [] folds left = (folds ≡ []) × (left ≡ [])
InTurn (o ∷ more) folds left = FirstInTurn o.debt o.counter (owed_to more) folds left

first_in_turn : (d : Debt) (x : Counter) (more : List Counter) (folds : List Fold) (left : List Counter) → FirstInTurn d x more folds left → ArePaidInTurn (x ∷ more) folds left
first_in_turn Free x more folds left turn = turn
first_in_turn (Event a) x more folds left turn = turn
first_in_turn FoldDue x more folds left turn = turn
first_in_turn (ClearDue d) x more folds left turn = ⊎_elim (λ paid. inl (None, folds, tt, refl, paid)) (λ left. inr (None, folds, tt, refl, left)) turn

in_turn : (debts : List Owed) (folds : List Fold) (left : List Counter) → InTurn debts folds left → ArePaidInTurn (owed_to debts) folds left
in_turn [] folds left turn = turn
in_turn (o ∷ more) folds left turn = first_in_turn o.debt o.counter (owed_to more) folds left turn

-- nothing is paid yet
first_still : (d : Debt) (x : Counter) (more : List Counter) → FirstInTurn d x more [] (x ∷ more)
first_still Free x more = inr (None, [], tt, refl, (refl, refl))
first_still (Event a) x more = inr (None, [], tt, refl, (refl, refl))
first_still FoldDue x more = inr (None, [], tt, refl, (refl, refl))
first_still (ClearDue d) x more = inr (refl, refl)

still : (debts : List Owed) → InTurn debts [] (owed_to debts)
still [] = (refl, refl)
still (o ∷ more) = first_still o.debt o.counter (owed_to more)

module _ (set : Setting) (c : ℕ) where
  -- the same of what is made after a step, and so of it too
  abbrev InTurnAfter : (made : List Made) (n : ℕ) (r : CpuRecord) (debts : List Owed) (step : Step) → Type 0
  InTurnAfter made n r debts step = let next = record_after set step n r in debts ≡ r.debts → AreOnce debts
      → (AreOnce next.debts → InTurn next.debts (folds_by set made next) (owed_to (record_of set made next).debts))
      → InTurn debts (fold_by set step n r ++ folds_by set made next) (owed_to (record_of set made next).debts)

  one_in_turn : (made : List Made) (n : ℕ) (r : CpuRecord) (debts : List Owed) (step : Step) → Pays c step debts → InTurnAfter made n r debts step
  one_in_turn made n r = by_first c (InTurnAfter made n r)
      (λ x a more is once later.
      let next = record_after set (add c x) n r in
      let folds = folds_by set made next in
      let left = owed_to (record_of set made next).debts in
      let others : without_debt x r.debts ≡ more = ap (without_debt x) (sym is) ∙ drop_first x (Event a) more once.0 in
      let due : with_debt x FoldDue r.debts ≡ owed x FoldDue ∷ more = ap (λ (l : List Owed). owed x FoldDue ∷ l) others in
      let from : (l : List Owed) → next.debts ≡ l → AreOnce l → InTurn l folds left = λ l to once'. subst (λ (d : List Owed). InTurn d folds left) to (later (subst AreOnce (sym to) once')) in
      let either : (next.debts ≡ owed x FoldDue ∷ more) ⊎ (next.debts ≡ more) =
      cond_both _ (with_debt x FoldDue r.debts) (without_debt x r.debts) (λ (l : List Owed). (l ≡ owed x FoldDue ∷ more) ⊎ (l ≡ more)) (λ reached. inl due) (λ not. inr others) in
      ⊎_elim (λ to. from (owed x FoldDue ∷ more) to once) (λ to. inl (None, folds, tt, refl, in_turn more folds left (from more to once.1))) either)
      (λ x more is once later.
      let next = record_after set (fold c x) n r in
      let folds = folds_by set made next in
      let left = owed_to (record_of set made next).debts in
      let d = ClearDue (own_told set x r) in
      let to : next.debts ≡ owed x d ∷ more = ap (λ (l : List Owed). owed x d ∷ l) (ap (without_debt x) (sym is) ∙ drop_first x FoldDue more once.0) in
      let turn : InTurn (owed x d ∷ more) folds left = subst (λ (l : List Owed). InTurn l folds left) to (later (subst AreOnce (sym to) once)) in
      let f = fold_made set x n r in
      ⊎_elim (λ paid. inl (Some f, folds, refl, refl, paid)) (λ stopped. inr (Some f, folds, refl, refl, stopped)) turn)
      (λ x d more is once later.
      let next = record_after set (clear c x) n r in
      let folds = folds_by set made next in
      let left = owed_to (record_of set made next).debts in
      let to : next.debts ≡ more = ap (without_debt x) (sym is) ∙ drop_first x (ClearDue d) more once.0 in
      inl (in_turn more folds left (subst (λ (l : List Owed). InTurn l folds left) to (later (subst AreOnce (sym to) once.1)))))

  all_in_turn : (made : List Made) (r : CpuRecord) → PayInOrder set c made r → AreOnce r.debts → InTurn r.debts (folds_by set made r) (owed_to (record_of set made r).debts)
  all_in_turn [] r pays once = still r.debts
  all_in_turn (m ∷ made) r pays once = one_in_turn made m.found r r.debts m.step pays.0 refl once
      (λ once'. all_in_turn made (record_after set m.step m.found r) pays.1 once')

  -- ---- whole numbers

  abbrev WholeAfter : (was : CpuRecord) (made : List Made) (n : ℕ) (r : CpuRecord) (debts : List Owed) (step : Step) → Type 0
  WholeAfter was made n r debts step = let next = record_after set step n r in debts ≡ r.debts → r.events ≡ was.events
      → (next.events ≡ was.events → AreWhole set was (folds_by set made next) next.folds)
      → AreWhole set was (fold_by set step n r ++ folds_by set made next) r.folds

  number_due : (x : Counter) (r : CpuRecord) (more : List Owed) → owed x FoldDue ∷ more ≡ r.debts → own_told set x r ≡ (account_of set x r).net -ℤ sum_made (folds_of x r.folds)
  number_due x r more is =
      let all = (account_of set x r).net -ℤ sum_made (folds_of x r.folds) in
      let due : debt_to x r.debts ≡ FoldDue = ap (debt_to x) (sym is) ∙ cond-true (is_same x x) FoldDue (debt_to x more) (is_same-itself x) in
      let none : (all -ℤ pos 0) +ℤ pos 0 ≡ all = omega (arith, ints) in
      ap (λ (d : Debt). (all -ℤ amount d) +ℤ to_clear d) due ∙ none

  one_whole : (was : CpuRecord) (made : List Made) (n : ℕ) (r : CpuRecord) (debts : List Owed) (step : Step) → Pays c step debts → WholeAfter was made n r debts step
  one_whole was made n r = by_first c (WholeAfter was made n r)
      (λ x a more is same later. later same)
      (λ x more is same later. (number_due x r more is ∙ ap (λ l. (account_of set x (record r { events = l })).net -ℤ sum_made (folds_of x r.folds)) same, later same))
      (λ x d more is same later. later same)

  all_whole : (was : CpuRecord) (made : List Made) (r : CpuRecord) → PayInOrder set c made r → r.events ≡ was.events → AreWhole set was (folds_by set made r) r.folds
  all_whole was [] r pays same = tt
  all_whole was (m ∷ made) r pays same = one_whole was made m.found r r.debts m.step pays.0 refl same
      (λ same'. all_whole was made (record_after set m.step m.found r) pays.1 same')

  -- ---- the folds that the record got

  abbrev GotAfter : (made : List Made) (n : ℕ) (r : CpuRecord) (debts : List Owed) (step : Step) → Type 0
  GotAfter made n r debts step = let next = record_after set step n r in (record_of set made next).folds ≡ turned_round (folds_by set made next) next.folds
      → (record_of set made next).folds ≡ turned_round (fold_by set step n r ++ folds_by set made next) r.folds

  all_got : (made : List Made) (r : CpuRecord) → PayInOrder set c made r → (record_of set made r).folds ≡ turned_round (folds_by set made r) r.folds
  all_got [] r pays = refl
  all_got (m ∷ made) r pays = by_first c (GotAfter made m.found r) (λ x a more later. later) (λ x more later. later) (λ x d more later. later) r.debts m.step pays.0
      (all_got made (record_after set m.step m.found r) pays.1)

-- ---- the call

pub settled_order : (set : Setting) (c : ℕ) (said : ℕ → Bool → Type 0) (settled : Settled) (r new : CpuRecord) → Settles set c said settled r new → AreOnce r.debts
    → ArePaid set c (in_order settled) r new
settled_order set c said settled r new by once =
    let folds = folds_by set by.made r in
    let after = record_of set by.made r in
    let told : folds ≡ in_order settled = turned_is_told settled folds r.folds (sym (all_got set c by.made r by.in_order) ∙ ap (λ (q : CpuRecord). q.folds) (sym by.becomes) ∙ by.folds) in
    let turn : ArePaidInTurn (owed_to r.debts) folds (owed_to after.debts) = in_turn r.debts folds (owed_to after.debts) (all_in_turn set c by.made r by.in_order once) in
    record {
      made = by.made;
      becomes = by.becomes;
      first_is_due = by.in_order;
      in_turn = subst (λ (z : List Fold × CpuRecord). ArePaidInTurn (owed_to r.debts) z.0 (owed_to z.1.debts)) (λ i. (told i, sym by.becomes i)) turn;
      whole = subst (λ (fs : List Fold). AreWhole set r fs r.folds) told (all_whole set c r by.made r by.in_order refl);
      sorted = record { first = settled.first; second = settled.second; third = settled.third; are = refl; of_context = by.first; of_global = by.second; of_group = by.third };
    }
