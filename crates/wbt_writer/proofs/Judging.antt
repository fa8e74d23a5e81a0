-- What a check notes of estimates, what its record grew by, and what its writer gets.
use Rattle.std.proofs.Common.{◌≡◌, ◌≢◌, ℕ, ◌<◌, ◌≤◌, inl, inr, true, eqb, List, [], ◌∷◌, ◌++◌, map, flat_map, length, set, Option, Some, None, refl, sym, ap, ◌∙◌, subst, arith, Contains, eqb-true}
use Rattle.std.proofs.lemmas.Bool.{cases_eq, cond_both}
use Rattle.std.proofs.lemmas.List.{get_or-set_same, get_or-set_other}
use Rattle.std.proofs.lemmas.List.Elements.{Contains-push}
use Rattle.wbt_writer.proofs.Common.{Domain, Estimate, Setting, writer_in, CpuRecord, DomainLimits, WriterRecord, cgroup_reads, reads_of, Each, checked, CheckEntry, DomainLine, Kind, note_of, known_of, Context, Wait, Grew, IsHeld, WereHeld, limits_in, limits_of, EstimatesGrew, Longer, Notes, one, triple_of, given_by, HasGroupLine, HasLines, Gets, group_triples, loads_in, triples_in, DomainLoad}
use Rattle.wbt_kit.proofs.Common.{Reading, Load, after_read, first_in, Known}
use Rattle.wbt_estimate.specs.Estimate.{first_at}
use Rattle.wbt_grant.specs.Record.{granted}
use Rattle.wbt_grant.specs.State.{holding}
use Rattle.wbt_journal.specs.Counts.{loads_of, read_loads}
use Rattle.wbt_pause.specs.declared.decision.Kind.TheVariants.{Exempt, Free, Go}
use Rattle.wbt_published.specs.Known.{first_one}
use Rattle.wbt_published.specs.Passes.{Seats as EstPass}
use Rattle.wbt_run_laws.specs.Entries.{NamesSeen}
use Rattle.wbt_run_laws.specs.Grew.{Gained, onto, reading_of}
use Rattle.wbt_run_laws.specs.Notes.{IsTold}
use Rattle.wbt_run_laws.specs.Steps.{Gathered}
use Rattle.wbt_run_laws.proofs.Calling.{read_tells_nothing}
use Rattle.wbt_run_laws.proofs.Entering.{check_names_seen}
use Rattle.wbt_run_laws.proofs.Holding.{check_tells}
use Rattle.wbt_run_laws.proofs.Noting.{told_none}
use Rattle.wbt_run_laws.proofs.Stepping.{check_grows}
use Rattle.wbt_run_steps.specs.Loads.{load_of}
use Rattle.wbt_run_steps.specs.Reads.{ReadsEstimate}
use Rattle.wbt_writer.specs.Lines.{HasLine}
use Rattle.wbt_writer.specs.Loads.{HoldsEach, group_loads}
use Rattle.wbt_writer.specs.declared.lines.Lines.{Lines}
use Rattle.wbt_writer.specs.declared.loads.Loads.{Loads}
use Rattle.wbt_writer.proofs.Holding.{were_held}
use Rattle.wbt_writer.proofs.Loading.{other_with, own_with}

-- ---- estimates

first_is : (e : Estimate) → eqb e.version 0 ≡ true → first_one.version ≡ e.version
unfolding first_at
first_is e is = sym (eqb-true e.version 0 is)

note_version : (e : Estimate) → (note_of e).version ≡ e.version
note_version e = cond_both (eqb e.version 0) first_one e (λ (n : Estimate). n.version ≡ e.version) (λ is. first_is e is) (λ not. refl)

module _ (firsts : List Estimate) (context : ℕ) (estimate : Estimate) (old new : EstPass) (read : ReadsEstimate firsts context estimate old new) (there : context < length old.known) where
  pub known_here : known_of context new ≡ after_read (note_of estimate) (known_of context old)
  known_here = ap (λ (p : EstPass). known_of context p) read.noted ∙ get_or-set_same old.known context (after_read (note_of estimate) (known_of context old)) _ there

  known_else : (k : ℕ) → k ≢ context → known_of k new ≡ known_of k old
  known_else k other = ap (λ (p : EstPass). known_of k p) read.noted ∙ get_or-set_other old.known context k (after_read (note_of estimate) (known_of context old)) _ other

  pub has_note : Contains (known_of context new).reads (note_of estimate)
  has_note = subst (λ (k : Known). Contains k.reads (note_of estimate)) (sym known_here) (Contains-push (known_of context old).reads (note_of estimate))

  seen_here : (known_of context new).seen ≡ estimate.version
  seen_here = ap (λ (k : Known). k.seen) known_here ∙ note_version estimate

  none_falls : (k : ℕ) → (known_of k old).seen ≤ (known_of k new).seen
  none_falls k = elim (cases_eq k context) [
    | inl is ↦ subst (λ (z : ℕ). (known_of z old).seen ≤ (known_of z new).seen) (sym is) (let low = read.no_older in let at = seen_here in omega arith)
    | inr other ↦ let same = ap (λ (x : Known). x.seen) (known_else k other) in omega arith
  ]

  names_seen : (check : CheckEntry) → check.context ≡ context → check.estimate ≡ estimate.version → NamesSeen check (λ k. known_of k old) (λ k. known_of k new)
  names_seen check at named = record {
    no_older = subst (λ (z : ℕ). (known_of z old).seen ≤ check.estimate) (sym at) (let low = read.no_older in omega arith);
    seen_now = subst (λ (z : ℕ). check.estimate ≤ (known_of z new).seen) (sym at) (let seen = seen_here in omega arith);
    none_falls = none_falls;
  }

  pub check_estimates : (cpu : ℕ) (check : CheckEntry) (before behind : Notes) → check.context ≡ context → check.estimate ≡ estimate.version → ((k : ℕ) → before.estimates k ≡ known_of k old) → ((k : ℕ) → behind.estimates k ≡ known_of k new)
      → before.estimates ≡ (λ k. known_of k old) → behind.estimates ≡ (λ k. known_of k new) → EstimatesGrew firsts cpu (checked check ∷ []) before behind
  check_estimates cpu check before behind at named old_is new_is old_are new_are = record {
    each = λ k. subst (λ (z : Known × Known). IsTold (first_in firsts k) [] z.0 z.1) (λ i. (sym (old_is k) i, sym (new_is k) i)) (told k);
    names = check_names_seen cpu check before.estimates behind.estimates
        (subst (λ (z : (ℕ → Known) × (ℕ → Known)). NamesSeen check z.0 z.1) (λ i. (sym old_are i, sym new_are i)) (names_seen check at named));
  }
    where
      told : (k : ℕ) → IsTold (first_in firsts k) [] (known_of k old) (known_of k new)
      told k = elim (cases_eq k context) [
        | inl is ↦ subst (λ (z : ℕ). IsTold (first_in firsts z) [] (known_of z old) (known_of z new)) (sym is)
            (subst (λ (x : Known). IsTold (first_in firsts context) [] (known_of context old) x) (sym known_here) (read_tells_nothing (first_in firsts context) (known_of context old) estimate))
        | inr other ↦ subst (λ (x : Known). IsTold (first_in firsts k) [] (known_of k old) x) (sym (known_else k other)) (told_none (first_in firsts k) (known_of k old))
      ]

-- ---- the record

-- what a grant leaves as it is
pub record Left (r r' : CpuRecord) : Type 0 where
  pub folds : r'.folds ≡ r.folds
  pub events : r'.events ≡ r.events
  pub found_dirty : r'.found_dirty ≡ r.found_dirty
  pub page_steps : r'.page_steps ≡ r.page_steps
  pub readings : r'.readings ≡ r.readings
  pub triples : r'.triples ≡ r.triples
  pub debts : r'.debts ≡ r.debts
  pub held : r'.held ≡ r.held
  pub marks : r'.owed_marks ≡ r.owed_marks
  pub rescans : r'.owed_rescans ≡ r.owed_rescans

pub given_leaves : (kind : Kind) (w left : ℕ) (r : CpuRecord) → Left r (given_by kind w left r)
given_leaves Wait w left r = record { folds = refl; events = refl; found_dirty = refl; page_steps = refl; readings = refl; triples = refl; debts = refl; held = refl; marks = refl; rescans = refl }
given_leaves Free w left r = record { folds = refl; events = refl; found_dirty = refl; page_steps = refl; readings = refl; triples = refl; debts = refl; held = refl; marks = refl; rescans = refl }
given_leaves Go w left r = record { folds = refl; events = refl; found_dirty = refl; page_steps = refl; readings = refl; triples = refl; debts = refl; held = refl; marks = refl; rescans = refl }
given_leaves Exempt w left r = record { folds = refl; events = refl; found_dirty = refl; page_steps = refl; readings = refl; triples = refl; debts = refl; held = refl; marks = refl; rescans = refl }

-- the writer has what is given, and others have what they had
pub granted_own : (set : Setting) (w left : ℕ) (r : CpuRecord) → (writer_in set w (granted w left r).writers).left ≡ left
granted_own set w left r = ap (λ (x : WriterRecord). x.left) (own_with set w (holding w left) r.writers refl)

pub given_own : (set : Setting) (kind : Kind) (w left : ℕ) (r : CpuRecord) → kind ≢ Wait → (writer_in set w (given_by kind w left r).writers).left ≡ left
given_own set Wait w left r goes = absurd (goes refl)
given_own set Free w left r goes = granted_own set w left r
given_own set Go w left r goes = granted_own set w left r
given_own set Exempt w left r goes = granted_own set w left r

pub granted_others : (set : Setting) (w left : ℕ) (r : CpuRecord) (v : ℕ) → v ≢ w → writer_in set v (granted w left r).writers ≡ writer_in set v r.writers
granted_others set w left r v other = other_with set w (holding w left) r.writers refl v other

pub given_others : (set : Setting) (kind : Kind) (w left : ℕ) (r : CpuRecord) (v : ℕ) → v ≢ w → writer_in set v (given_by kind w left r).writers ≡ writer_in set v r.writers
given_others set Wait w left r v other = refl
given_others set Free w left r v other = granted_others set w left r v other
given_others set Go w left r v other = granted_others set w left r v other
given_others set Exempt w left r v other = granted_others set w left r v other

gathered_to : (a : List Load) (old mid new : CpuRecord) → Gathered a old mid → Left mid new → Gathered a old new
gathered_to a old mid new g l = record {
  folds = l.folds ∙ g.folds;
  events = l.events ∙ g.events;
  found_dirty = l.found_dirty ∙ g.found_dirty;
  page_steps = l.page_steps ∙ g.page_steps;
  readings = subst (λ (q : List Reading). Gained (map reading_of a) old.readings q) (sym l.readings) g.readings;
  limits = subst (λ (q : List DomainLimits). Longer old.triples q) (sym l.triples) g.limits;
  fresh = g.fresh;
}

-- ---- loads and lines

line_load : (load : DomainLoad) (line : DomainLine) → HasLine load line → record { counter = Domain line.domain; count = line.count } ≡ load_of load
line_load load line has = λ i. record { counter = Domain (has.domain i); count = has.count i }

line_triple : (load : DomainLoad) (line : DomainLine) → HasLine load line → limits_of line ≡ triple_of load
line_triple load line has = λ i. record { domain = has.domain i; version = has.version i; limits = has.limits i }

group_lines : (load : Option DomainLoad) (line : Option DomainLine) → HasGroupLine load line
    → (read_loads (cgroup_reads line) ≡ group_loads load) × (map limits_of (cgroup_reads line) ≡ group_triples load)
group_lines None None has = (refl, refl)
group_lines None (Some line) has = absurd has
group_lines (Some load) None has = absurd has
group_lines (Some load) (Some line) has = (ap (λ (l : Load). l ∷ []) (line_load load line has), ap (λ (t : DomainLimits). t ∷ []) (line_triple load line has))

module _ (loads : Loads) (lines : Lines) (check : CheckEntry) (has : HasLines loads lines) (zero_is : loads.global.domain ≡ 0) (one_is : check.global ≡ lines.global) (two_is : check.cgroup ≡ lines.cgroup) (count_is : check.count ≡ loads.count) where
  global_has : HasLine loads.global lines.global
  global_has = record { domain = has.domain ∙ sym zero_is; version = has.version; limits = has.limits; count = has.count }

  pub triples_same : map limits_of (reads_of check) ≡ triples_in loads
  triples_same = (λ i. limits_of (one_is i) ∷ map limits_of (cgroup_reads (two_is i)))
      ∙ (λ i. line_triple loads.global lines.global global_has i ∷ (group_lines loads.group lines.cgroup has.group).1 i)

  pub loads_same : loads_of check ≡ loads_in check.context loads
  loads_same = (λ i. read_loads (one_is i ∷ cgroup_reads (two_is i)) ++ record { counter = Context check.context; count = count_is i } ∷ [])
      ∙ (λ i. (line_load loads.global lines.global global_has i ∷ (group_lines loads.group lines.cgroup has.group).0 i) ++ record { counter = Context check.context; count = loads.count } ∷ [])

  module _ (set : Setting) (r0 r1 r2 : CpuRecord) (gets : Gets set (loads_in check.context loads) (triples_in loads) r0 r1) (left : Left r1 r2) where
    pub check_grew : Grew (checked check ∷ []) r0 r2
    check_grew = check_grows check r0 r2
        (subst (λ (l : List Load). Gathered l r0 r2) (sym loads_same) (gathered_to (loads_in check.context loads) r0 r1 r2 gets.gathered left))

    pub check_readings : r2.readings ≡ onto one (map reading_of (loads_of check)) r0.readings
    check_readings = left.readings ∙ gets.readings ∙ ap (λ (l : List Load). onto one (map reading_of l) r0.readings) (sym loads_same)

    pub check_triples : HoldsEach set.firsts (map limits_of (reads_of check)) r0.triples r2.triples
    check_triples = subst (λ (z : List DomainLimits × List DomainLimits). HoldsEach set.firsts z.0 r0.triples z.1) (λ i. (sym triples_same i, sym left.triples i)) gets.triples_are

    pub check_held : WereHeld set.firsts (flat_map limits_in (checked check ∷ [])) r0.triples r2.triples
    check_held = check_tells set.firsts check r0.triples r2.triples (were_held set.firsts (map limits_of (reads_of check)) r0.triples r2.triples check_triples)

    pub check_holds : Each (IsHeld set.firsts r1.triples) (triples_in loads) → Each (IsHeld set.firsts r2.triples) (map limits_of (reads_of check))
    check_holds holds = subst (λ (z : List DomainLimits × List DomainLimits). Each (IsHeld set.firsts z.1) z.0) (λ i. (sym triples_same i, sym left.triples i)) holds
