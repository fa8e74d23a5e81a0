-- Of which kinds the steps are that pay what a CPU owes to counters.
use Rattle.std.proofs.Common.{◌≡◌, ℕ, Bool, true, false, ◌==◌, List, [], ◌∷◌, ◌++◌, map, ◌⊎◌, inl, inr, ⊎_elim, ℤ, refl, sym, ap, ◌∙◌, subst, append_assoc, append-nil}
use Rattle.std.proofs.lemmas.Bool.{cond_both}
use Rattle.wbt_kit.proofs.Common.{with_debt, without_debt, Counter, Domain, Debt, Free, Event, FoldDue, ClearDue, Owed, Step, add, clear, fold, debts_of, record_after, Setting, counters_of, CpuRecord, StepKind, Made, PayInOrder, Pays, Settles, record_of, LogsSteps, Has, LogComes, Settled}
use Rattle.wbt_counter.specs.declared.counter.Counter.TheVariants.{Context}
use Rattle.wbt_grant.specs.Seats.{own_told}
use Rattle.wbt_grant.specs.declared.who.StepKind.TheVariants as kind
use Rattle.wbt_kit.specs.declared.kit.Seats.{Seats}
use Rattle.wbt_table.specs.History.{log_of}
use Rattle.wbt_turns.specs.Words.{IsCut, IsSettled}
use Rattle.wbt_run_steps.specs.Debts.{AreOnce}
use Rattle.wbt_run_steps.specs.Kinds.{ArePayments, PaysFirst, Steps, StepsAs, StepsToPay}
use Rattle.wbt_run_steps.specs.Records as records
use Rattle.wbt_run_steps.proofs.Changing.{record_is}
use Rattle.wbt_run_steps.proofs.Logging.{kind_in, kinds_made, made_as, steps_so}
use Rattle.wbt_run_steps.proofs.Ordering.{by_first, drop_first, owed}

-- ---- one step

module _ (set : Setting) (c : ℕ) where
  -- what is owed after it is paid by the steps that follow, and so what was owed before by all of them
  abbrev PaysAfter : (n : ℕ) (r : CpuRecord) (debts : List Owed) (step : Step) → Type 0
  PaysAfter n r debts step = let next = record_after set step n r in debts ≡ r.debts → AreOnce debts
      → AreOnce next.debts × ((word : List StepKind) → ArePayments next.debts word → ArePayments debts (kind_in step ++ word))

  pays_after : (n : ℕ) (r : CpuRecord) (debts : List Owed) (step : Step) → Pays c step debts → PaysAfter n r debts step
  pays_after n r = by_first c (PaysAfter n r)
      (λ x a more is once.
      let next = record_after set (add c x) n r in
      let others : without_debt x r.debts ≡ more = ap (without_debt x) (sym is) ∙ drop_first x (Event a) more once.0 in
      let due : with_debt x FoldDue r.debts ≡ owed x FoldDue ∷ more = ap (λ (l : List Owed). owed x FoldDue ∷ l) others in
      let either : (next.debts ≡ owed x FoldDue ∷ more) ⊎ (next.debts ≡ more) =
      cond_both _ (with_debt x FoldDue r.debts) (without_debt x r.debts) (λ (l : List Owed). (l ≡ owed x FoldDue ∷ more) ⊎ (l ≡ more)) (λ reached. inl due) (λ not. inr others) in
      ⊎_elim
      (λ to. (
        subst AreOnce (sym to) once,
        λ word pays. let p : ArePayments (owed x FoldDue ∷ more) word = subst (λ (l : List Owed). ArePayments l word) to pays in
            (p.0, p.1, inr (ap (λ (w : List StepKind). kind.Add ∷ w) p.2)),
      ))
      (λ to. (subst AreOnce (sym to) once.1, λ word pays. (word, subst (λ (l : List Owed). ArePayments l word) to pays, inl refl))) either)
      (λ x more is once.
      let next = record_after set (fold c x) n r in
      let d = ClearDue (own_told set x r) in
      let to : next.debts ≡ owed x d ∷ more = ap (λ (l : List Owed). owed x d ∷ l) (ap (without_debt x) (sym is) ∙ drop_first x FoldDue more once.0) in (
        subst AreOnce (sym to) once,
        λ word pays. let p : ArePayments (owed x d ∷ more) word = subst (λ (l : List Owed). ArePayments l word) to pays in
            (p.0, p.1, ap (λ (w : List StepKind). kind.Fold ∷ w) p.2),
      ))
      (λ x d more is once.
      let next = record_after set (clear c x) n r in
      let to : next.debts ≡ more = ap (without_debt x) (sym is) ∙ drop_first x (ClearDue d) more once.0 in
      (subst AreOnce (sym to) once.1, λ word pays. (word, subst (λ (l : List Owed). ArePayments l word) to pays, refl)))

  -- ---- one after another

  all_pay : (made : List Made) (r : CpuRecord) → PayInOrder set c made r → AreOnce r.debts → (word : List StepKind) → ArePayments (record_of set made r).debts word
      → ArePayments r.debts (kinds_made made ++ word)
  all_pay [] r pays once word left = left
  all_pay (m ∷ made) r pays once word left =
      let one = pays_after m.found r r.debts m.step pays.0 refl once in
      subst (ArePayments r.debts) (sym (append_assoc (kind_in m.step) (kinds_made made) word))
      (one.1 (kinds_made made ++ word) (all_pay made (record_after set m.step m.found r) pays.1 one.0 word left))

-- whatever is owed can be paid
first_paid : (debt : Debt) (rest : List StepKind) → (word : List StepKind) × PaysFirst debt rest word
first_paid Free rest = (rest, refl)
first_paid (Event a) rest = (kind.Add ∷ rest, inl refl)
first_paid FoldDue rest = (kind.Fold ∷ kind.Clear ∷ rest, refl)
first_paid (ClearDue a) rest = (kind.Clear ∷ rest, refl)

can_pay : (debts : List Owed) → (word : List StepKind) × ArePayments debts word
can_pay [] = ([], refl)
can_pay (o ∷ more) =
    let rest = can_pay more in
    let first = first_paid o.debt rest.0 in
    (first.0, (rest.0, rest.1, first.1))

-- ---- the call

module _ (set : Setting) (cpu : ℕ) (said : ℕ → Bool → Type 0) (settled : Settled) (old new : Seats) (r r' : CpuRecord) (has : Has old.cpu.cpus cpu r) (once : AreOnce r.debts)
    (by : Settles set cpu said settled r r') (logs : LogComes cpu (LogsSteps set (log_of set cpu) by.made) old.cpu new.cpu) where
  paid_with : (left : List StepKind) → ArePayments r'.debts left → ArePayments (records.record_of cpu old.cpu.cpus).debts (kinds_made by.made ++ left)
  paid_with left pays = subst (λ (q : CpuRecord). ArePayments q.debts (kinds_made by.made ++ left)) (sym (record_is old.cpu.cpus cpu r has))
      (all_pay set cpu by.made r by.in_order once left (subst (λ (q : CpuRecord). ArePayments q.debts left) by.becomes pays))

  steps_as : StepsAs cpu (kinds_made by.made) old new
  steps_as = made_as cpu set by.made old new logs

  paid_by : (all : Bool) → settled.all ≡ all → StepsToPay cpu all old new
  paid_by true is = (
    kinds_made by.made,
    subst (ArePayments (records.record_of cpu old.cpu.cpus).debts) (append-nil (kinds_made by.made))
        (paid_with [] (subst (λ (l : List Owed). ArePayments l []) (sym (by.all_paid is)) refl)),
    steps_as,
  )
  paid_by false is = let left = can_pay r'.debts in (kinds_made by.made, (left.0, paid_with left.0 left.1), steps_as)

  pub steps_paid : StepsToPay cpu settled.all old new
  steps_paid = paid_by settled.all refl

-- ---- the events of a page

pub settled_by : (set : Setting) (p : ℕ) (a : ℤ) (word : List StepKind) → ArePayments (debts_of set p a) word → IsSettled word
settled_by set p a word =
    let g = set.group (set.home p) in
    cond_both (g == 0) [] (Domain g ∷ [])
    (λ (l : List Counter). ArePayments (map (λ (x : Counter). owed x (Event a)) (Context (set.home p) ∷ Domain 0 ∷ l)) word → IsSettled word)
    (λ is pays. inl pays) (λ none pays. inr pays)

-- what is owed of a page was paid, or a first part of it
pub page_settled : (set : Setting) (p : ℕ) (a : ℤ) (cpu : ℕ) (old new : Seats) → (records.record_of cpu old.cpu.cpus).debts ≡ debts_of set p a → StepsToPay cpu true old new
    → Steps cpu IsSettled old new
page_settled set p a cpu old new owes = steps_so cpu (ArePayments (records.record_of cpu old.cpu.cpus).debts) IsSettled old new
    (λ word pays. settled_by set p a word (subst (λ (l : List Owed). ArePayments l word) owes pays))

pub page_settled_part : (set : Setting) (p : ℕ) (a : ℤ) (cpu : ℕ) (old new : Seats) → (records.record_of cpu old.cpu.cpus).debts ≡ debts_of set p a → StepsToPay cpu false old new
    → Steps cpu (IsCut IsSettled) old new
page_settled_part set p a cpu old new owes = steps_so cpu (IsCut (ArePayments (records.record_of cpu old.cpu.cpus).debts)) (IsCut IsSettled) old new
    (λ word cut. (cut.0, settled_by set p a (word ++ cut.0) (subst (λ (l : List Owed). ArePayments l (word ++ cut.0)) owes cut.1)))
