-- What the code keeps of a CPU's record, after steps that leave debts alone.
use Rattle.std.proofs.Common.{◌≡◌, ℕ, cond, ◌&&◌, ◌||◌, not, List, Option, Some, None, sym, refl, ap, ◌∙◌, subst}
use mathlib.Core.Option.{some-injective}
use Rattle.std.proofs.lemmas.Bool.{cond_both}
use Rattle.wbt_table.proofs.Common.{Counter, Domain, Context, Bits, CpuRecord, Setting, one_more, looked, passed, owing_mark, own_told, look_record, setting, Has, given, Sat, Keeps, States, Knows, IsTold, IsDue, with_grants, IsSeat, stepped}
use Rattle.wbt_table.specs.declared.layout.Layout.{Layout}
use Rattle.wbt_table.specs.declared.rule.Granted.{Granted}
use Rattle.wbt_table.specs.declared.state.CpuState.{CpuState}
use Rattle.wbt_table.specs.declared.state.Due.{Due}
use Rattle.wbt_table.specs.declared.state.Due.TheVariants.{Event, Fold, Clear}
use Rattle.wbt_table.proofs.Seating.{known_at}

-- what is kept is of one state
one_state : (states : States) (c : ℕ) (s t : CpuState) → Knows states c s → Knows states c t → s ≡ t
one_state states c s t a b = let e : Some s ≡ Some t = some-injective (Some s) (Some t) (sym a ∙ b) in cc

-- the record that a view has of a CPU, where r is shown
pub record KnownRecord (key : Layout) (me : Sat) (c : ℕ) (s : CpuState) (r : CpuRecord) : Type 0 where
  pub record' : CpuRecord
  pub has : Has me.0.cpus c record'
  pub keeps : Keeps key c s record'
  pub with_it : given s.grants record' ≡ r

pub known_record : (key : Layout) (me : Sat) (states : States) (lefts : List ℕ) (timer : Option ℕ) (c : ℕ) (s : CpuState) (r : CpuRecord)
    → me.0.layout ≡ key → IsSeat me states lefts timer → Has (with_grants states me.0.cpus) c r → Knows states c s → KnownRecord key me c s r
known_record key me states lefts timer c s r at seat has knows =
    let t = known_at states me.0.cpus c r (λ d q h. let k = seat.agrees.kept d q h in (k.0, k.1)) has in
    let same : t.state ≡ s = one_state states c t.state s t.knows knows in
    let kept = seat.agrees.kept c t.record' t.has in
    let kept_same : kept.0 ≡ s = one_state states c kept.0 s kept.1 knows in record {
      record' = t.record';
      has = t.has;
      keeps = subst (λ (z : Layout × CpuState). Keeps z.0 c z.1 t.record') (λ i. (at i, kept_same i)) kept.2;
      with_it = ap (λ (z : CpuState). given z.grants t.record') (sym same) ∙ t.with_it;
    }

-- what no look, mark or load of a CPU for itself changes
pub record Same (r r' : CpuRecord) : Type 0 where
  pub page_steps : r'.page_steps ≡ r.page_steps
  pub events : r'.events ≡ r.events
  pub debts : r'.debts ≡ r.debts
  pub folds : r'.folds ≡ r.folds

-- own numbers are told by these
pub own_same : (set' : Setting) (x : Counter) (r r' : CpuRecord) → Same r r' → own_told set' x r' ≡ own_told set' x r
own_same set' x r r' same = λ i. own_told set' x (record r {
  page_steps = same.page_steps i;
  events = same.events i;
  debts = same.debts i;
  folds = same.folds i;
})

-- a kept number follows the record
pub told_follows : (set' : Setting) (x : Counter) (due : Due) (r r' : CpuRecord) → own_told set' x r' ≡ own_told set' x r → IsTold set' x due r → IsTold set' x due r'
told_follows set' x (Event a) r r' e h = h
told_follows set' x (Fold delta) r r' e h = (e ∙ h.0, h.1)
told_follows set' x (Clear delta) r r' e h = tt

module _ (key : Layout) (r r' : CpuRecord) (own : (x : Counter) → own_told (setting key) x r' ≡ own_told (setting key) x r) where
  pub due_follows : (x : Counter) (due : Option Due) → IsDue key x due r → IsDue key x due r'
  due_follows x None h = tt
  due_follows x (Some due) h = (h.0, told_follows (setting key) x due r r' (own x) h.1)

pub keeps_step : (key : Layout) (c : ℕ) (s : CpuState) (r r' : CpuRecord) → Keeps key c s r → r'.steps ≡ one_more r.steps
    → r'.page_steps ≡ r.page_steps → r'.debts ≡ r.debts → ((x : Counter) → own_told (setting key) x r' ≡ own_told (setting key) x r) → Keeps key c (stepped s) r'
keeps_step key c s r r' old steps page_steps debts own = record {
  steps = ap one_more old.steps ∙ sym steps;
  page_steps = old.page_steps ∙ sym page_steps;
  debts = debts ∙ old.debts;
  first = due_follows key r r' own (Context s.context) s.first old.first;
  second = due_follows key r r' own (Domain 0) s.second old.second;
  third = due_follows key r r' own (Domain s.group) s.third old.third;
  no_group = old.no_group;
  grants = tt;
}

-- a grant changes writers alone
pub given_same : (grants : Option Granted) (r : CpuRecord) → Same r (given grants r)
given_same None r = record { page_steps = refl; events = refl; debts = refl; folds = refl }
given_same (Some g) r = record { page_steps = refl; events = refl; debts = refl; folds = refl }

pub given_steps : (grants : Option Granted) (r : CpuRecord) → (given grants r).steps ≡ r.steps
given_steps None r = refl
given_steps (Some g) r = refl

pub same_twice : (a b c : CpuRecord) → Same a b → Same b c → Same a c
same_twice a b c f g = record {
  page_steps = g.page_steps ∙ f.page_steps;
  events = g.events ∙ f.events;
  debts = g.debts ∙ f.debts;
  folds = g.folds ∙ f.folds;
}

-- a look changes rescans and marks that are owed
module _ (set' : Setting) (p : ℕ) (bits : Bits) (r : CpuRecord) where
  pub looked_each : (P : CpuRecord → Type 0) → P (owing_mark (set'.inode p) (passed p r)) → P (passed p r) → P r → P (looked set' p bits r)
  looked_each P a b c = cond_both (bits.dirty && bits.writeback) (owing_mark (set'.inode p) (passed p r)) (cond (not bits.dirty || bits.writeback) (passed p r) r) P
      (λ t. a) (λ t. cond_both (not bits.dirty || bits.writeback) (passed p r) r P (λ t. b) (λ t. c))

pub look_same : (set' : Setting) (p n : ℕ) (r : CpuRecord) → Same r (look_record set' p n r)
look_same set' p n r =
    let bits : Bits = set'.coding.page_bits n p in record {
      page_steps = looked_each set' p bits r (λ z. z.page_steps ≡ r.page_steps) refl refl refl;
      events = looked_each set' p bits r (λ z. z.events ≡ r.events) refl refl refl;
      debts = looked_each set' p bits r (λ z. z.debts ≡ r.debts) refl refl refl;
      folds = looked_each set' p bits r (λ z. z.folds ≡ r.folds) refl refl refl;
    }

pub look_steps : (set' : Setting) (p n : ℕ) (r : CpuRecord) → (look_record set' p n r).steps ≡ one_more r.steps
look_steps set' p n r = looked_each set' p (set'.coding.page_bits n p) r (λ z. one_more z.steps ≡ one_more r.steps) refl refl refl

pub look_writers : (set' : Setting) (p n : ℕ) (r : CpuRecord) → (look_record set' p n r).writers ≡ r.writers
look_writers set' p n r = looked_each set' p (set'.coding.page_bits n p) r (λ z. z.writers ≡ r.writers) refl refl refl
