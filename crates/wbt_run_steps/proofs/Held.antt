-- What a CPU holds of a domain when its limits were loaded.
use Rattle.std.proofs.Common.{◌≡◌, ◌≢◌, ℕ, true, eqb, List, [], ◌∷◌, refl, sym, ap, ◌∙◌, subst, ⊎_elim, eq-eqb, ne_eqb, eqb-true}
use Rattle.std.proofs.lemmas.Bool.{cases_Bool, cond_both, cond-true, cond-false}
use Rattle.wbt_kit.proofs.Common.{Limits, is_whole, read_triple, record_after, first, middle, Setting, found_of, held_of, newest_of, CpuRecord, DomainLimits, Who, IsCutLoad, Made, record_of, whole_load, at_once, after_first, after_middle, setting, Triple, Layout}
use Rattle.wbt_grant.specs.Record.{beside, found_first}
use Rattle.wbt_grant.specs.declared.record.Finding.{Finding}
use Rattle.wbt_grant.specs.declared.record.Finding.TheVariants.{Sequence, Words}
use Rattle.wbt_grant.proofs.Sequences.{found_here}
use Rattle.wbt_table.specs.Calls.{is_whole_load, triple_in}
use Rattle.wbt_table.specs.Held.{triple_of}
use Rattle.wbt_run_laws.specs.Steps.{Gathered}
use Rattle.wbt_run_laws.proofs.Stepping.{gathered_more, steps_grow}
use Rattle.wbt_run_laws.proofs.Lists.{gained_none, longer_none}
use Rattle.wbt_run_steps.specs.Loads.{held_as}

-- ---- the newest of a domain

pub newest_domain : (d : ℕ) (first' : Limits) (triples : List DomainLimits) → (newest_of d first' triples).domain ≡ d
newest_domain d first' [] = refl
newest_domain d first' (new ∷ older) = ⊎_elim
    (λ t. ap (λ (x : DomainLimits). x.domain) (cond-true (eqb d new.domain) new (newest_of d first' older) t) ∙ sym (eqb-true d new.domain t))
    (λ f. ap (λ (x : DomainLimits). x.domain) (cond-false (eqb d new.domain) new (newest_of d first' older) f) ∙ newest_domain d first' older)
    (cases_Bool (eqb d new.domain))

newest_is : (d : ℕ) (first' : Limits) (new : DomainLimits) (older : List DomainLimits) → new.domain ≡ d → newest_of d first' (new ∷ older) ≡ new
newest_is d first' new older is = cond-true (eqb d new.domain) new (newest_of d first' older) (eq-eqb d new.domain (sym is))

-- as an answer tells it
as_told : (d : ℕ) (held : Triple) (limits : DomainLimits) → limits.domain ≡ d → held ≡ triple_of limits → limits ≡ held_as d held
as_told d held limits is told = λ i. record { domain = is i; version = sym (ap (λ (t : Triple). t.version) told) i; limits = sym (ap (λ (t : Triple). t.limits) told) i }

-- ---- the three steps of a load

module _ (key : Layout) (who : Who) (c d n m k : ℕ) (r : CpuRecord) where
  abbrev set' : Setting
  set' = setting key

  abbrev before_last : CpuRecord
  before_last = record_after set' (middle c d) m (record_after set' (first c d) n r)

  abbrev pub loaded : CpuRecord
  loaded = record_of set' (whole_load who c d n m k) r

  found_words : found_of d before_last.loading ≡ Words n m
  found_words = found_here d (beside m (found_of d (found_first d n r).loading)) (found_first d n r).loading ∙ ap (beside m) (found_here d (Sequence n) r.loading)

  -- read whole
  fresh_triples : is_whole_load n k ≡ true → loaded.triples ≡ held_as d (triple_in k m) ∷ r.triples
  fresh_triples is =
      let found : Finding = found_of d before_last.loading in
      let whole : is_whole set' found k ≡ true = ap (λ (f : Finding). is_whole set' f k) found_words ∙ is in
      cond-true (is_whole set' found k) (read_triple set' d found k ∷ r.triples) r.triples whole
      ∙ ap (λ (f : Finding). read_triple set' d f k ∷ r.triples) found_words

  pub fresh_held : is_whole_load n k ≡ true → held_of set' d loaded.triples ≡ held_as d (triple_in k m)
  fresh_held is = ap (held_of set' d) (fresh_triples is) ∙ newest_is d (set'.firsts d) (held_as d (triple_in k m)) r.triples refl

-- or not: the answer is what the CPU holds
pub again_held : (set : Setting) (d : ℕ) (held : Triple) (r : CpuRecord) → held ≡ triple_of (held_of set d r.triples) → held_of set d r.triples ≡ held_as d held
again_held set d held r told = as_told d held (held_of set d r.triples) (newest_domain d (set.firsts d) r.triples) told

-- ---- what a load leaves as it is

module _ (set : Setting) (who : Who) (c d n m k : ℕ) (r : CpuRecord) where
  abbrev r1 : CpuRecord
  r1 = record_after set (first c d) n r

  abbrev r2 : CpuRecord
  r2 = record_after set (middle c d) m r1

  abbrev after_load : CpuRecord
  after_load = record_of set (whole_load who c d n m k) r

  -- what it holds of other domains
  pub others_held : (e : ℕ) → e ≢ d → held_of set e after_load.triples ≡ held_of set e r.triples
  others_held e other =
      let found : Finding = found_of d r2.loading in
      let new : DomainLimits = read_triple set d found k in
      cond_both (is_whole set found k) (new ∷ r.triples) r.triples (λ (ts : List DomainLimits). held_of set e ts ≡ held_of set e r.triples)
      (λ whole. cond-false (eqb e d) new (held_of set e r.triples) (ne_eqb e d other)) (λ part. refl)

  -- no entry tells the steps, and no limits that were loaded are lost
  pub load_gathers : Gathered [] r after_load
  load_gathers = gathered_more [] [] r r1 after_load ((steps_grow set n r).untold (first c d) refl)
      (gathered_more [] [] r1 r2 after_load ((steps_grow set m r1).untold (middle c d) refl) ((steps_grow set k r2).loads_limits who d))

-- no step was made
pub gathered_still : (r : CpuRecord) → Gathered [] r r
gathered_still r = record {
  folds = refl;
  events = refl;
  found_dirty = refl;
  page_steps = refl;
  readings = gained_none r.readings;
  limits = longer_none r.triples;
  fresh = tt;
}

-- a load that was stopped
pub cut_gathers : (set : Setting) (c d : ℕ) (made : List Made) (r : CpuRecord) → IsCutLoad c d made → Gathered [] r (record_of set made r)
cut_gathers set c d made r (at_once is) = subst (λ (m : List Made). Gathered [] r (record_of set m r)) (sym is) (gathered_still r)
cut_gathers set c d made r (after_first n is) = subst (λ (m : List Made). Gathered [] r (record_of set m r)) (sym is) ((steps_grow set n r).untold (first c d) refl)
cut_gathers set c d made r (after_middle n m is) = subst (λ (x : List Made). Gathered [] r (record_of set x r)) (sym is)
    (gathered_more [] [] r (record_after set (first c d) n r) (record_after set (middle c d) m (record_after set (first c d) n r))
    ((steps_grow set n r).untold (first c d) refl) ((steps_grow set m (record_after set (first c d) n r)).untold (middle c d) refl))

-- and what it leaves
pub record CutLeaves (r r' : CpuRecord) : Type 0 where
  pub triples : r'.triples ≡ r.triples
  pub readings : r'.readings ≡ r.readings
  pub debts : r'.debts ≡ r.debts
  pub held : r'.held ≡ r.held
  pub marks : r'.owed_marks ≡ r.owed_marks
  pub rescans : r'.owed_rescans ≡ r.owed_rescans
  pub writers : r'.writers ≡ r.writers

pub cut_leaves : (set : Setting) (c d : ℕ) (made : List Made) (r : CpuRecord) → IsCutLoad c d made → CutLeaves r (record_of set made r)
cut_leaves set c d made r (at_once is) = subst (λ (m : List Made). CutLeaves r (record_of set m r)) (sym is)
    (record { triples = refl; readings = refl; debts = refl; held = refl; marks = refl; rescans = refl; writers = refl })
cut_leaves set c d made r (after_first n is) = subst (λ (m : List Made). CutLeaves r (record_of set m r)) (sym is)
    (record { triples = refl; readings = refl; debts = refl; held = refl; marks = refl; rescans = refl; writers = refl })
cut_leaves set c d made r (after_middle n m is) = subst (λ (x : List Made). CutLeaves r (record_of set x r)) (sym is)
    (record { triples = refl; readings = refl; debts = refl; held = refl; marks = refl; rescans = refl; writers = refl })
