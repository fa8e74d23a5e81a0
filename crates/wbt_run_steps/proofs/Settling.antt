-- What a call that pays counters makes of the record: it grows by the folds that are told.
use Rattle.std.proofs.Common.{◌≡◌, ℕ, Bool, not, List, [], ◌∷◌, ◌++◌, filter, Option, Some, None, sym, refl, ap, ◌∙◌, subst, append_assoc, append-nil}
use Rattle.std.proofs.lemmas.Bool.{cond_both}
use Rattle.std.proofs.lemmas.List.{append_cancel_right}
use Rattle.wbt_kit.proofs.Common.{Counter, Debt, Free, Event, FoldDue, ClearDue, Fold, Owed, with_debt, without_debt, CpuRecord, Step, add, clear, record_after, Setting, Made, record_of, Pays, PayInOrder, Settles, Settled, Each, Told, folded}
use Rattle.wbt_counter.specs.Counters.{is_same}
use Rattle.wbt_table.specs.Calls.{told_fold, told_folds}
use Rattle.wbt_journal.specs.Counts.{fold_in}
use Rattle.wbt_run_laws.specs.Grew.{onto, Grew}
use Rattle.wbt_run_laws.specs.Steps.{Gathered, fold_made}
use Rattle.wbt_run_laws.proofs.Growing.{by_nothing, by_both}
use Rattle.wbt_run_laws.proofs.Lists.{each_append}
use Rattle.wbt_run_laws.proofs.Stepping.{untold_grows, steps_grow}
use Rattle.wbt_run_steps.specs.Steps.{Stays, tells_folds}

pub stays_so : (r : CpuRecord) → Stays r r
stays_so r = record { events = refl; found_dirty = refl; readings = refl; triples = refl; page_steps = refl; held = refl; rescans = refl; marks = refl; writers = refl }

pub stays_more : (a b c : CpuRecord) → Stays a b → Stays b c → Stays a c
stays_more a b c p q = record {
  events = q.events ∙ p.events;
  found_dirty = q.found_dirty ∙ p.found_dirty;
  readings = q.readings ∙ p.readings;
  triples = q.triples ∙ p.triples;
  page_steps = q.page_steps ∙ p.page_steps;
  held = q.held ∙ p.held;
  rescans = q.rescans ∙ p.rescans;
  marks = q.marks ∙ p.marks;
  writers = q.writers ∙ p.writers;
}

-- ---- the counters of debts

module _ (P : Counter → Type 0) where
  abbrev pub AreOf : (debts : List Owed) → Type 0
  AreOf debts = Each (λ (o : Owed). P o.counter) debts

  kept_of : (keep : Owed → Bool) (debts : List Owed) → AreOf debts → AreOf (filter keep debts)
  kept_of keep [] of = tt
  kept_of keep (o ∷ debts) of = cond_both (keep o) (o ∷ filter keep debts) (filter keep debts) AreOf (λ is. (of.0, kept_of keep debts of.1)) (λ not. kept_of keep debts of.1)

  pub without_of : (x : Counter) (debts : List Owed) → AreOf debts → AreOf (without_debt x debts)
  without_of x debts of = kept_of (λ owed. not (is_same x owed.counter)) debts of

  -- what steps that pay made of the record: it grew by some folds, of counters to which something was owed
  pub record Paid (r new : CpuRecord) : Type 0 where
    pub folds : List Fold
    pub grew : Grew (tells_folds folds) r new
    pub of : Each (λ (f : Fold). P f.counter) folds
    pub stays : Stays r new
    pub debts : AreOf new.debts

  paid_none : (r new : CpuRecord) → Gathered [] r new → Stays r new → AreOf new.debts → Paid r new
  paid_none r new gathered stays debts = record { folds = []; grew = untold_grows [] r new gathered; of = tt; stays = stays; debts = debts }

  paid_more : (a b c : CpuRecord) → Paid a b → Paid b c → Paid a c
  paid_more a b c p q = record {
    folds = p.folds ++ q.folds;
    grew = subst (λ (l : List Told). Grew l a c) (sym (tells_both p.folds q.folds)) (by_both (tells_folds p.folds) (tells_folds q.folds) a b c p.grew q.grew);
    of = each_append (λ (f : Fold). P f.counter) p.folds q.folds p.of q.of;
    stays = stays_more a b c p.stays q.stays;
    debts = q.debts;
  }
    where
      tells_both : (xs ys : List Fold) → tells_folds (xs ++ ys) ≡ tells_folds xs ++ tells_folds ys
      tells_both [] ys = refl
      tells_both (x ∷ xs) ys = ap (λ (l : List Told). folded x ∷ l) (tells_both xs ys)

  -- one step, by the debt that stands first
  pays_one : (set : Setting) (c : ℕ) (step : Step) (n : ℕ) (r : CpuRecord) (debts : List Owed) → debts ≡ r.debts → Pays c step debts → AreOf r.debts → Paid r (record_after set step n r)
  pays_one set c step n r [] is pays of = absurd pays
  pays_one set c step n r (o ∷ more) is pays of = by o.debt pays
    where
      first : P o.counter
      first = (subst AreOf (sym is) of).0

      by : (d : Debt) → Pays c step (record { counter = o.counter; debt = d } ∷ more) → Paid r (record_after set step n r)
      by Free pay = absurd pay
      by (Event a) pay = subst (λ (s : Step). Paid r (record_after set s n r)) (sym pay)
          (paid_none r (record_after set (add c o.counter) n r) ((steps_grow set n r).untold (add c o.counter) refl)
          (record { events = refl; found_dirty = refl; readings = refl; triples = refl; page_steps = refl; held = refl; rescans = refl; marks = refl; writers = refl })
          (let due : AreOf (with_debt o.counter FoldDue r.debts) = (first, without_of o.counter r.debts of) in
          let none : AreOf (without_debt o.counter r.debts) = without_of o.counter r.debts of in
          cond_both _ (with_debt o.counter FoldDue r.debts) (without_debt o.counter r.debts) AreOf (λ is. due) (λ not. none)))
      by FoldDue pay = subst (λ (s : Step). Paid r (record_after set s n r)) (sym pay)
          (record {
            folds = fold_made set o.counter n r ∷ [];
            grew = (steps_grow set n r).folds c o.counter;
            of = (first, tt);
            stays = record { events = refl; found_dirty = refl; readings = refl; triples = refl; page_steps = refl; held = refl; rescans = refl; marks = refl; writers = refl };
            debts = (first, without_of o.counter r.debts of);
          })
      by (ClearDue e) pay = subst (λ (s : Step). Paid r (record_after set s n r)) (sym pay)
          (paid_none r (record_after set (clear c o.counter) n r) ((steps_grow set n r).untold (clear c o.counter) refl)
          (record { events = refl; found_dirty = refl; readings = refl; triples = refl; page_steps = refl; held = refl; rescans = refl; marks = refl; writers = refl })
          (without_of o.counter r.debts of))

  pub pays_all : (set : Setting) (c : ℕ) (made : List Made) (r : CpuRecord) → PayInOrder set c made r → AreOf r.debts → Paid r (record_of set made r)
  pays_all set c [] r pays of = record { folds = []; grew = by_nothing r; of = tt; stays = stays_so r; debts = of }
  pays_all set c (m ∷ made) r pays of =
      let one = pays_one set c m.step m.found r r.debts refl pays.0 of in
      paid_more r (record_after set m.step m.found r) (record_of set made (record_after set m.step m.found r)) one
      (pays_all set c made (record_after set m.step m.found r) pays.1 one.debts)

-- ---- which folds: those that are told, the newest first in the record

abbrev pub turned_round : (folds older : List Fold) → List Fold
turned_round [] older = older
turned_round (f ∷ folds) older = turned_round folds (f ∷ older)

onto_folds : (folds older : List Fold) → onto fold_in (tells_folds folds) older ≡ turned_round folds older
onto_folds [] older = refl
onto_folds (f ∷ folds) older = onto_folds folds (f ∷ older)

turned_append : (folds older : List Fold) → turned_round folds older ≡ turned_round folds [] ++ older
turned_append [] older = refl
turned_append (f ∷ folds) older = turned_append folds (f ∷ older) ∙ sym (append_assoc (turned_round folds []) (f ∷ []) older)
    ∙ ap (λ (l : List Fold). l ++ older) (sym (turned_append folds (f ∷ [])))

turned_twice : (folds older behind : List Fold) → turned_round (turned_round folds older) behind ≡ turned_round older (folds ++ behind)
turned_twice [] older behind = refl
turned_twice (f ∷ folds) older behind = turned_twice folds (f ∷ older) behind

-- the folds that a call tells, in the order in which they were made
abbrev pub in_order : (settled : Settled) → List Fold
in_order settled = told_fold settled.first ++ (told_fold settled.second ++ told_fold settled.third)

turned_told : (a b c : Option Fold) → turned_round (told_fold c ++ told_fold b ++ told_fold a) [] ≡ told_fold a ++ (told_fold b ++ told_fold c)
turned_told None None None = refl
turned_told None None (Some z) = refl
turned_told None (Some y) None = refl
turned_told None (Some y) (Some z) = refl
turned_told (Some x) None None = refl
turned_told (Some x) None (Some z) = refl
turned_told (Some x) (Some y) None = refl
turned_told (Some x) (Some y) (Some z) = refl

pub turned_is_told : (settled : Settled) (folds older : List Fold) → turned_round folds older ≡ told_folds settled ++ older → folds ≡ in_order settled
turned_is_told settled folds older told =
    let turned : turned_round folds [] ++ older ≡ told_folds settled ++ older = sym (turned_append folds older) ∙ told in
    let is = append_cancel_right (turned_round folds []) (told_folds settled) older turned in
    sym (append-nil folds) ∙ sym (turned_twice folds [] []) ∙ ap (λ (l : List Fold). turned_round l []) is ∙ turned_told settled.first settled.second settled.third

same_folds : (settled : Settled) (folds older new : List Fold) → new ≡ onto fold_in (tells_folds folds) older → new ≡ told_folds settled ++ older → folds ≡ in_order settled
same_folds settled folds older new grew told = turned_is_told settled folds older (sym (onto_folds folds older) ∙ sym grew ∙ told)

-- the record grew by the folds that the call tells
pub settled_paid : (P : Counter → Type 0) (set : Setting) (c : ℕ) (said : ℕ → Bool → Type 0) (settled : Settled) (r new : CpuRecord) → Settles set c said settled r new
    → AreOf P r.debts → (paid : Paid P r new) × (paid.folds ≡ in_order settled)
settled_paid P set c said settled r new by of =
    let paid : Paid P r new = subst (λ (q : CpuRecord). Paid P r q) (sym by.becomes) (pays_all P set c by.made r by.in_order of) in
    (paid, same_folds settled paid.folds r.folds new.folds paid.grew.folds by.folds)
