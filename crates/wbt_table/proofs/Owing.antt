-- What page steps leave: events that are owed to the counters of the page, and a page less that the writer has left.
use Rattle.std.proofs.Common.{◌≡◌, ◌≢◌, ℕ, ◌+◌, ◌<◌, min, Bool, true, false, cond, eqb, List, [], ◌∷◌, length, get_or, set, map, Option, Some, None, ℤ, unsigned_abs, sym, refl, ap, ◌∙◌, subst, arith, ⊎_elim, eq-eqb, ne_eqb, get_or-set_same, get_or-set_other, length-set}
use mathlib.Core.Logic.{dite}
use native.Mathlib.Decide.{ℕ_discrete}
use Rattle.wbt_table.proofs.Common.{at_set, Counter, Domain, Context, Owed, CpuRecord, WriterRecord, Setting, holding, writer_in, with_writer, setting, IsLayout, Cpus, Has, put_record, MayGive, Keeps, IsDue, KeepsLefts, debts_in, page_stepped, owing_event, one_more, own_told}
use Rattle.std.proofs.lemmas.Bool.{cond_both, cond-true, cond-false}
use Rattle.wbt_counter.specs.declared.record.Debt.TheVariants.{Event as OwesEvent}
use Rattle.wbt_grant.specs.Setting.{counters_of}
use Rattle.wbt_grant.specs.Record.{debts_of}
use Rattle.wbt_grant.proofs.Entries.{entry_of-with}
use Rattle.wbt_table.specs.declared.layout.Layout.{Layout}
use Rattle.wbt_table.specs.declared.rule.Granted.{Granted}
use Rattle.wbt_table.specs.declared.state.CpuState.{CpuState}
use Rattle.wbt_table.specs.declared.state.Due.{Due}
use Rattle.wbt_table.specs.declared.state.Due.TheVariants.{Event}
use Rattle.wbt_table.specs.Seat.{listed}
use Rattle.wbt_table.proofs.Seating.{some_is}
use Rattle.wbt_table.proofs.Keeping.{due_follows}

-- an event that is owed, as records have it
abbrev owed_event : (a : ℤ) (x : Counter) → Owed
owed_event a x = record { counter = x; debt = OwesEvent a }

third_listed : (b : Bool) (d : ℕ) (a : ℤ) → map (owed_event a) (cond b [] (Domain d ∷ [])) ≡ listed (Domain d) (cond b None (Some (Event a)))
third_listed true d a = refl
third_listed false d a = refl

debts_owed : (set' : Setting) (p k : ℕ) (a : ℤ) (s : CpuState) → set'.home p ≡ k → debts_of set' p a ≡ debts_in (owing_event set' k a s)
debts_owed set' p k a s is = ap (λ (n : ℕ). map (owed_event a) (counters_of set' n)) is
    ∙ ap (λ (l : List Owed). owed_event a (Context k) ∷ owed_event a (Domain 0) ∷ l) (third_listed (eqb (set'.group k) 0) (set'.group k) a)

-- what the code keeps after a page step of a context
pub keeps_owing : (key : Layout) (c : ℕ) (s : CpuState) (r : CpuRecord) (k p : ℕ) (a : ℤ) → IsLayout key → unsigned_abs a ≡ 1 → k < length key.contexts
    → (setting key).home p ≡ k → s.steps ≡ r.steps → s.page_steps ≡ r.page_steps → s.grants ≡ None → r.debts ≡ debts_of (setting key) p a
    → Keeps key c (owing_event (setting key) k a s) r
keeps_owing key c s r k p a ok unit there home steps page_steps bare debts = record {
  steps = steps;
  page_steps = page_steps;
  debts = debts ∙ debts_owed (setting key) p k a s home;
  first = (there, unit);
  second = (ok.some_domain, unit);
  third = cond_both (eqb ((setting key).group k) 0) None (Some (Event a)) (λ (due : Option Due). IsDue key (Domain ((setting key).group k)) due r)
      (λ t. tt) (λ t. (ok.contexts_in_domains k 0 there, unit));
  no_group = λ e. cond-true (eqb ((setting key).group k) 0) None (Some (Event a)) (eq-eqb ((setting key).group k) 0 e);
  grants = subst (λ (g : Option Granted). MayGive (setting key) c g r) (sym bare) tt;
}

-- what writers have left where one of them has n now
pub lefts_change : (key : Layout) (lefts : List ℕ) (l : Cpus) (c w n : ℕ) (r r' : CpuRecord) → KeepsLefts key lefts l → Has l c r
    → (setting key).seat w ≡ c → w < length key.writers → r'.writers ≡ with_writer (holding w n) r.writers
    → KeepsLefts key (set lefts w n) (put_record c r' l)
lefts_change key lefts l c w n r r' old has seat there writers = let set' : Setting = setting key in let long = old.long in
    let read : (v : ℕ) → writer_in set' v r'.writers ≡ cond (eqb v w) (holding w n) (writer_in set' v r.writers) =
    λ v. ap (writer_in set' v) writers ∙ entry_of-with (λ (y : WriterRecord). y.writer) (holding v (min 32 set'.cap)) v (holding w n) r.writers in record {
      long = length-set lefts w n ∙ old.long;
      each = λ v q less hasq. ⊎_elim
          (λ e. let is : r' ≡ q = some_is r' q e.1 in
          dite (ℕ_discrete v w)
          (λ same. ap (λ (i : ℕ). get_or (set lefts w n) i 0) same ∙ get_or-set_same lefts w n 0 (omega arith)
          ∙ ap (λ (x : WriterRecord). x.left) (sym (read v ∙ cond-true (eqb v w) (holding w n) (writer_in set' v r.writers) (eq-eqb v w same)))
          ∙ ap (λ (x : CpuRecord). (writer_in set' v x.writers).left) is)
          (λ ne. get_or-set_other lefts w v n 0 ne ∙ old.each v r less (subst (λ (i : ℕ). Has l i r) (sym e.0) has)
          ∙ ap (λ (x : WriterRecord). x.left) (sym (read v ∙ cond-false (eqb v w) (holding w n) (writer_in set' v r.writers) (ne_eqb v w ne)))
          ∙ ap (λ (x : CpuRecord). (writer_in set' v x.writers).left) is))
          (λ t. let ne : v ≢ w = λ e. t.0 (ap set'.seat e ∙ seat) in get_or-set_other lefts w v n 0 ne ∙ old.each v q less t.1)
          (at_set l c (set'.seat v) (Some r') (Some q) hasq);
    }

-- a page step of a page that was dirty already
pub keeps_paged : (key : Layout) (c : ℕ) (s : CpuState) (r r' : CpuRecord) → Keeps key c s r → r'.steps ≡ one_more r.steps
    → r'.page_steps ≡ r.page_steps + 1 → r'.debts ≡ r.debts → ((x : Counter) → own_told (setting key) x r' ≡ own_told (setting key) x r) → Keeps key c (page_stepped s) r'
keeps_paged key c s r r' old steps page_steps debts own = record {
  steps = ap one_more old.steps ∙ sym steps;
  page_steps = ap (λ (n : ℕ). n + 1) old.page_steps ∙ sym page_steps;
  debts = debts ∙ old.debts;
  first = due_follows key r r' own (Context s.context) s.first old.first;
  second = due_follows key r r' own (Domain 0) s.second old.second;
  third = due_follows key r r' own (Domain s.group) s.third old.third;
  no_group = old.no_group;
  grants = tt;
}
