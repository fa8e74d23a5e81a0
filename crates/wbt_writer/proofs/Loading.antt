-- The loads of a check, one after another.
use Rattle.std.proofs.Common.{◌≡◌, ◌≢◌, ℕ, inl, inr, eqb, min, List, [], ◌∷◌, ◌++◌, map, Option, Some, None, refl, sym, ap, ◌∙◌, subst, eq-eqb, ne_eqb}
use Rattle.std.proofs.lemmas.Bool.{cond-true, cond-false, cases_eq}
use Rattle.std.proofs.lemmas.List.{append-nil, map-append}
use Rattle.wbt_writer.proofs.Common.{at_least_zero, Count, Domain, count, record_after, Setting, held_of, writer_in, CpuRecord, DomainLimits, WriterRecord, Each, Triple, Context, Seats, IsHeld, longer_none, steps_grow, held_as, one, triple_of, record_in, Gets, LoadedAll, LoadedSome, OnTable, group_triples, loads_in, triples_in, DomainLoad}
use Rattle.wbt_kit.proofs.Common.{version_in, Reading, first, limits, middle, NoneAhead, Load, IsCutLoad, Made, record_of, whole_load, at_once, after_first, after_middle}
use Rattle.wbt_counter.specs.Word.{count_in}
use Rattle.wbt_grant.specs.Record.{keeping, keeping_limits, keeping_reading, with_writer}
use Rattle.wbt_grant.specs.State.{holding, kept_of}
use Rattle.wbt_grant.specs.declared.record.Kept.{Kept}
use Rattle.wbt_grant.specs.declared.who.Who.TheVariants.{Writer}
use Rattle.wbt_grant.proofs.Entries.{entry_of-with, kept_of-with, writer_number}
use Rattle.wbt_run_laws.specs.Grew.{onto, reading_of}
use Rattle.wbt_run_laws.specs.Steps.{load_made}
use Rattle.wbt_run_laws.proofs.Lists.{onto_append, gained_none}
use Rattle.wbt_run_laws.proofs.Stepping.{gathered_more}
use Rattle.wbt_run_steps.specs.Loads.{load_of}
use Rattle.wbt_writer.specs.Loads.{HasKeptGroup, Loaded, LoadedContext, LoadedCount, LoadedDomain, LoadedGroup, LoadedLimits, group_loads, kept_by}
use Rattle.wbt_writer.specs.declared.loads.Loads.{Loads}
use Rattle.wbt_writer.proofs.Changing.{on_more, on_same}
use Rattle.wbt_writer.proofs.Holding.{all_hold, holds_loaded, holds_more}

-- ---- a writer's record in the place of the one before

module _ (set : Setting) (w : ℕ) (x : WriterRecord) (ws : List WriterRecord) (its : x.writer ≡ w) where
  pub own_with : writer_in set w (with_writer x ws) ≡ x
  own_with = entry_of-with (λ (y : WriterRecord). y.writer) (holding w (min 32 set.cap)) w x ws ∙ cond-true (eqb w x.writer) x (writer_in set w ws) (eq-eqb w x.writer (sym its))

  pub other_with : (v : ℕ) → v ≢ w → writer_in set v (with_writer x ws) ≡ writer_in set v ws
  other_with v other = entry_of-with (λ (y : WriterRecord). y.writer) (holding v (min 32 set.cap)) v x ws
      ∙ cond-false (eqb v x.writer) x (writer_in set v ws) (ne_eqb v x.writer (λ e. other (e ∙ its)))

  pub lefts_with : x.left ≡ (writer_in set w ws).left → (v : ℕ) → (writer_in set v (with_writer x ws)).left ≡ (writer_in set v ws).left
  lefts_with same v = elim (cases_eq v w) [
    | inl is ↦ subst (λ (u : ℕ). (writer_in set u (with_writer x ws)).left ≡ (writer_in set u ws).left) (sym is) (ap (λ (y : WriterRecord). y.left) own_with ∙ same)
    | inr other ↦ ap (λ (y : WriterRecord). y.left) (other_with v other)
  ]

kept_here : (k : Kept) (x : WriterRecord) → kept_of k.domain (keeping k x).kept ≡ k
kept_here k x = kept_of-with k.domain k x.kept ∙ cond-true (eqb k.domain k.domain) k (kept_of k.domain x.kept) (eq-eqb k.domain k.domain refl)

kept_there : (k : Kept) (x : WriterRecord) (d : ℕ) → d ≢ k.domain → kept_of d (keeping k x).kept ≡ kept_of d x.kept
kept_there k x d n = kept_of-with d k x.kept ∙ cond-false (eqb d k.domain) k (kept_of d x.kept) (ne_eqb d k.domain n)

-- ---- one load after another

pub gets_more : (set : Setting) (a b : List Load) (s t : List DomainLimits) (old mid new : CpuRecord) → Gets set a s old mid → Gets set b t mid new → Gets set (a ++ b) (s ++ t) old new
gets_more set a b s t old mid new p q = record {
  gathered = gathered_more a b old mid new p.gathered q.gathered;
  readings = q.readings ∙ ap (onto one (map reading_of b)) p.readings ∙ sym (onto_append one (map reading_of a) (map reading_of b) old.readings)
      ∙ ap (λ (l : List Reading). onto one l old.readings) (sym (map-append reading_of a b));
  triples_are = holds_more set.firsts s t old.triples mid.triples new.triples p.triples_are q.triples_are;
  debts = q.debts ∙ p.debts;
  held = q.held ∙ p.held;
  marks = q.marks ∙ p.marks;
  rescans = q.rescans ∙ p.rescans;
  lefts = λ w. q.lefts w ∙ p.lefts w;
}

pub loaded_more : (set : Setting) (cpu : ℕ) (a b : List Load) (s t : List DomainLimits) (old mid new : Seats) → Loaded set cpu a s old mid → Loaded set cpu b t mid new → Loaded set cpu (a ++ b) (s ++ t) old new
loaded_more set cpu a b s t old mid new p q = record {
  on = on_more cpu old mid new p.on q.on;
  gets = gets_more set a b s t (record_in cpu old) (record_in cpu mid) (record_in cpu new) p.gets q.gets;
}

pub some_more : (set : Setting) (cpu : ℕ) (a : List Load) (s : List DomainLimits) (old mid new : Seats) → Loaded set cpu a s old mid → LoadedSome set cpu mid new → LoadedSome set cpu old new
some_more set cpu a s old mid new p q = record {
  loads = a ++ q.loads;
  triples = s ++ q.triples;
  loaded = loaded_more set cpu a q.loads s q.triples old mid new p q.loaded;
}

-- ---- single loads of a writer

module _ (set : Setting) (w n : ℕ) (r : CpuRecord) where
  own : WriterRecord
  own = writer_in set w r.writers

  -- the last of the three steps that load limits: the CPU holds these then
  pub gets_limits : (d : ℕ) (triple : Triple) → held_of set d (record_after set (limits (Writer w) d) n r).triples ≡ held_as d triple
      → Gets set [] (held_as d triple ∷ []) r (record_after set (limits (Writer w) d) n r)
  unfolding own
  gets_limits d triple held = record {
    gathered = (steps_grow set n r).loads_limits (Writer w) d;
    readings = refl;
    triples_are = holds_loaded set (Writer w) d n triple r held;
    debts = refl;
    held = refl;
    marks = refl;
    rescans = refl;
    lefts = lefts_with set w (keeping_limits d (held_of set d (record_after set (limits (Writer w) d) n r).triples).limits own) r.writers (writer_number set w r.writers) refl;
  }

  pub limits_kept : (d : ℕ) (triple : Triple) → held_of set d (record_after set (limits (Writer w) d) n r).triples ≡ held_as d triple
      → kept_of d (writer_in set w (record_after set (limits (Writer w) d) n r).writers).kept ≡ record { domain = d; limits = Some triple.limits; reading = None }
  unfolding own
  limits_kept d triple held =
      let l = (held_of set d (record_after set (limits (Writer w) d) n r).triples).limits in
      ap (λ (x : WriterRecord). kept_of d x.kept) (own_with set w (keeping_limits d l own) r.writers (writer_number set w r.writers))
      ∙ kept_here (record { domain = d; limits = Some l; reading = None }) own
      ∙ ap (λ (t : DomainLimits). record { domain = d; limits = Some t.limits; reading = None }) held

  pub limits_others : (d e : ℕ) → e ≢ d → kept_of e (writer_in set w (record_after set (limits (Writer w) d) n r).writers).kept ≡ kept_of e (writer_in set w r.writers).kept
  unfolding own
  limits_others d e other =
      let l = (held_of set d (record_after set (limits (Writer w) d) n r).triples).limits in
      ap (λ (x : WriterRecord). kept_of e x.kept) (own_with set w (keeping_limits d l own) r.writers (writer_number set w r.writers))
      ∙ kept_there (record { domain = d; limits = Some l; reading = None }) own e other

  -- a domain's count
  abbrev kept_count : (d : ℕ) → Kept
  kept_count d = record { domain = d; limits = (kept_of d (writer_in set w r.writers).kept).limits; reading = Some (at_least_zero (count_in n)) }

  pub gets_count : (d : ℕ) → NoneAhead (version_in n) (Domain d) r → Gets set (load_made (Domain d) n ∷ []) [] r (record_after set (count (Writer w) (Domain d)) n r)
  unfolding own
  gets_count d newest = record {
    gathered = (steps_grow set n r).counts (Writer w) (Domain d) newest;
    readings = refl;
    triples_are = refl;
    debts = refl;
    held = refl;
    marks = refl;
    rescans = refl;
    lefts = lefts_with set w (keeping (kept_count d) own) r.writers (writer_number set w r.writers) refl;
  }

  pub count_kept : (d : ℕ) → kept_of d (writer_in set w (record_after set (count (Writer w) (Domain d)) n r).writers).kept ≡ kept_count d
  unfolding own
  count_kept d = ap (λ (x : WriterRecord). kept_of d x.kept) (own_with set w (keeping (kept_count d) own) r.writers (writer_number set w r.writers))
      ∙ kept_here (kept_count d) own

  pub count_others : (d e : ℕ) → e ≢ d → kept_of e (writer_in set w (record_after set (count (Writer w) (Domain d)) n r).writers).kept ≡ kept_of e (writer_in set w r.writers).kept
  unfolding own
  count_others d e other = ap (λ (x : WriterRecord). kept_of e x.kept) (own_with set w (keeping (kept_count d) own) r.writers (writer_number set w r.writers))
      ∙ kept_there (kept_count d) own e other

  -- the count of the writer's own context
  abbrev with_context : WriterRecord
  with_context = record (writer_in set w r.writers) { context_reading = Some (at_least_zero (count_in n)) }

  its_context : (k : ℕ) → set.works_in w ≡ k → keeping_reading set w (Context k) (at_least_zero (count_in n)) (writer_in set w r.writers) ≡ with_context
  its_context k is = cond-true (eqb (set.works_in w) k) with_context (writer_in set w r.writers) (eq-eqb (set.works_in w) k is)

  context_writers : (k : ℕ) → set.works_in w ≡ k → (record_after set (count (Writer w) (Context k)) n r).writers ≡ with_writer with_context r.writers
  context_writers k is = ap (λ (x : WriterRecord). with_writer x r.writers) (its_context k is)

  pub context_own : (k : ℕ) → set.works_in w ≡ k → writer_in set w (record_after set (count (Writer w) (Context k)) n r).writers ≡ with_context
  context_own k is = ap (writer_in set w) (context_writers k is) ∙ own_with set w with_context r.writers (writer_number set w r.writers)

  pub gets_context : (k : ℕ) → set.works_in w ≡ k → NoneAhead (version_in n) (Context k) r → Gets set (load_made (Context k) n ∷ []) [] r (record_after set (count (Writer w) (Context k)) n r)
  gets_context k is newest = record {
    gathered = (steps_grow set n r).counts (Writer w) (Context k) newest;
    readings = refl;
    triples_are = refl;
    debts = refl;
    held = refl;
    marks = refl;
    rescans = refl;
    lefts = λ v. ap (λ (ws : List WriterRecord). (writer_in set v ws).left) (context_writers k is) ∙ lefts_with set w with_context r.writers (writer_number set w r.writers) refl v;
  }

-- ---- the first two steps that load limits

gets_none : (set : Setting) (r : CpuRecord) → Gets set [] [] r r
gets_none set r = record {
  gathered = record {
    folds = refl;
    events = refl;
    found_dirty = refl;
    page_steps = refl;
    readings = gained_none r.readings;
    limits = longer_none r.triples;
    fresh = tt;
  };
  readings = refl;
  triples_are = refl;
  debts = refl;
  held = refl;
  marks = refl;
  rescans = refl;
  lefts = λ w. refl;
}

gets_first : (set : Setting) (c d n : ℕ) (r : CpuRecord) → Gets set [] [] r (record_after set (first c d) n r)
gets_first set c d n r = record {
  gathered = (steps_grow set n r).untold (first c d) refl;
  readings = refl;
  triples_are = refl;
  debts = refl;
  held = refl;
  marks = refl;
  rescans = refl;
  lefts = λ w. refl;
}

gets_middle : (set : Setting) (c d n : ℕ) (r : CpuRecord) → Gets set [] [] r (record_after set (middle c d) n r)
gets_middle set c d n r = record {
  gathered = (steps_grow set n r).untold (middle c d) refl;
  readings = refl;
  triples_are = refl;
  debts = refl;
  held = refl;
  marks = refl;
  rescans = refl;
  lefts = λ w. refl;
}

gets_two : (set : Setting) (c d n m : ℕ) (r : CpuRecord) → Gets set [] [] r (record_after set (middle c d) m (record_after set (first c d) n r))
gets_two set c d n m r =
    let mid = record_after set (first c d) n r in gets_more set [] [] [] [] r mid (record_after set (middle c d) m mid) (gets_first set c d n r) (gets_middle set c d m mid)

-- a load that was stopped
pub gets_cut : (set : Setting) (c d : ℕ) (made : List Made) (r : CpuRecord) → IsCutLoad c d made → Gets set [] [] r (record_of set made r)
gets_cut set c d made r (at_once is) = subst (λ (l : List Made). Gets set [] [] r (record_of set l r)) (sym is) (gets_none set r)
gets_cut set c d made r (after_first n is) = subst (λ (l : List Made). Gets set [] [] r (record_of set l r)) (sym is) (gets_first set c d n r)
gets_cut set c d made r (after_middle n m is) = subst (λ (l : List Made). Gets set [] [] r (record_of set l r)) (sym is) (gets_two set c d n m r)

-- ---- as seats show them

-- limits by their three steps
module _ (set : Setting) (cpu w d n m k : ℕ) (triple : Triple) (old new : Seats) (on : OnTable cpu old new)
    (becomes : record_in cpu new ≡ record_of set (whole_load (Writer w) cpu d n m k) (record_in cpu old)) (held : held_of set d (record_in cpu new).triples ≡ held_as d triple) where
  abbrev was : CpuRecord
  was = record_in cpu old

  abbrev found_both : CpuRecord
  found_both = record_after set (middle cpu d) m (record_after set (first cpu d) n was)

  held_then : held_of set d (record_after set (limits (Writer w) d) k found_both).triples ≡ held_as d triple
  held_then = ap (λ (q : CpuRecord). held_of set d q.triples) (sym becomes) ∙ held

  pub limits_by : LoadedLimits set cpu w d triple old new
  limits_by = record {
    loaded = record {
      on = on;
      gets = subst (λ (q : CpuRecord). Gets set [] (held_as d triple ∷ []) was q) (sym becomes)
          (gets_more set [] [] [] (held_as d triple ∷ []) was found_both (record_after set (limits (Writer w) d) k found_both) (gets_two set cpu d n m was) (gets_limits set w k found_both d triple held_then));
    };
    has_limits = ap (λ (q : CpuRecord). kept_of d (writer_in set w q.writers).kept) becomes ∙ limits_kept set w k found_both d triple held_then;
    others = λ e other. ap (λ (q : CpuRecord). kept_of e (writer_in set w q.writers).kept) becomes ∙ limits_others set w k found_both d e other;
  }

module _ (set : Setting) (cpu w n : ℕ) (old new : Seats) (on : OnTable cpu old new) where
  pub count_by : (d : ℕ) (c : Count) → c ≡ record { version = version_in n; value = count_in n } → NoneAhead (version_in n) (Domain d) (record_in cpu old)
      → record_in cpu new ≡ record_after set (count (Writer w) (Domain d)) n (record_in cpu old) → LoadedCount set cpu w d c old new
  count_by d c is newest becomes =
      let r = record_in cpu old in
      subst (λ (m : Count). LoadedCount set cpu w d m old new) (sym is) (record {
        loaded = record {
          on = on;
          gets = subst (λ (q : CpuRecord). Gets set (load_made (Domain d) n ∷ []) [] r q) (sym becomes) (gets_count set w n r d newest);
        };
        has_reading = ap (λ (q : CpuRecord). kept_of d (writer_in set w q.writers).kept) becomes ∙ count_kept set w n r d;
        others = λ e other. ap (λ (q : CpuRecord). kept_of e (writer_in set w q.writers).kept) becomes ∙ count_others set w n r d e other;
      })

  pub context_by : (k : ℕ) (c : Count) → set.works_in w ≡ k → c ≡ record { version = version_in n; value = count_in n } → NoneAhead (version_in n) (Context k) (record_in cpu old)
      → record_in cpu new ≡ record_after set (count (Writer w) (Context k)) n (record_in cpu old) → LoadedContext set cpu w k c old new
  context_by k c its is newest becomes =
      let r = record_in cpu old in
      subst (λ (m : Count). LoadedContext set cpu w k m old new) (sym is) (record {
        loaded = record {
          on = on;
          gets = subst (λ (q : CpuRecord). Gets set (load_made (Context k) n ∷ []) [] r q) (sym becomes) (gets_context set w n r k its newest);
        };
        has_reading = ap (λ (q : CpuRecord). (writer_in set w q.writers).context_reading) becomes ∙ ap (λ (x : WriterRecord). x.context_reading) (context_own set w n r k its);
        others = ap (λ (q : CpuRecord). (writer_in set w q.writers).kept) becomes ∙ ap (λ (x : WriterRecord). x.kept) (context_own set w n r k its);
      })

-- ---- a domain, and all that a check loads

module _ (set : Setting) (cpu w : ℕ) where
  pub domain_by : (load : DomainLoad) (old mid new : Seats) → LoadedLimits set cpu w load.domain (record { version = load.version; limits = load.limits }) old mid → LoadedCount set cpu w load.domain load.count mid new
      → LoadedDomain set cpu w load old new
  domain_by load old mid new p q = record {
    loaded = loaded_more set cpu [] (load_of load ∷ []) (triple_of load ∷ []) [] old mid new p.loaded q.loaded;
    has_kept = q.has_reading ∙ ap (λ (k : Kept). record { domain = load.domain; limits = k.limits; reading = Some (at_least_zero load.count.value) }) p.has_limits;
    others = λ d other. q.others d other ∙ p.others d other;
  }

  pub no_group : (seats : Seats) (group : ℕ) → group ≡ 0 → Loaded set cpu [] [] seats seats → LoadedGroup set cpu w group None seats seats
  no_group seats group is loaded = record { loaded = loaded; group_is = is; has_group = tt; global = refl }

  pub some_group : (group : ℕ) (load : DomainLoad) (old new : Seats) → group ≢ 0 → load.domain ≡ group → LoadedDomain set cpu w load old new → LoadedGroup set cpu w group (Some load) old new
  some_group group load old new some is p = record {
    loaded = p.loaded;
    group_is = (some, is);
    has_group = p.has_kept;
    global = p.others 0 (λ e. some (sym is ∙ sym e));
  }

  keeps_group : (group : Option DomainLoad) (mid new : Seats) → (kept_by set cpu w new).kept ≡ (kept_by set cpu w mid).kept → HasKeptGroup set cpu w group mid → HasKeptGroup set cpu w group new
  keeps_group None mid new same has = tt
  keeps_group (Some load) mid new same has = ap (kept_of load.domain) same ∙ has

  pub all_by : (context group : ℕ) (loads : Loads) (s0 s1 s2 s3 : Seats) → loads.global.domain ≡ 0 → LoadedDomain set cpu w loads.global s0 s1 → LoadedGroup set cpu w group loads.group s1 s2
      → LoadedContext set cpu w context loads.count s2 s3 → LoadedAll set cpu w context group loads s0 s3
  all_by context group loads s0 s1 s2 s3 zero_is p q t =
      let one' = loaded_more set cpu (load_of loads.global ∷ []) (group_loads loads.group) (triple_of loads.global ∷ []) (group_triples loads.group) s0 s1 s2 p.loaded q.loaded in
      let context_load : Load = record { counter = Context context; count = loads.count } in
      let all = loaded_more set cpu (load_of loads.global ∷ group_loads loads.group) (context_load ∷ []) (triples_in loads) [] s0 s2 s3 one' t.loaded in
      record {
        loaded = subst (λ (l : List DomainLimits). Loaded set cpu (loads_in context loads) l s0 s3) (append-nil (triples_in loads)) all;
        global = zero_is;
        group_is = q.group_is;
        has_global = ap (kept_of loads.global.domain) t.others
            ∙ ap (λ (d : ℕ). kept_of d (kept_by set cpu w s2).kept) zero_is ∙ q.global ∙ ap (λ (d : ℕ). kept_of d (kept_by set cpu w s1).kept) (sym zero_is) ∙ p.has_kept;
        has_group = keeps_group loads.group s2 s3 t.others q.has_group;
        has_context = t.has_reading;
        holds = subst (λ (l : List DomainLimits). Each (IsHeld set.firsts l) (triples_in loads)) (sym t.loaded.gets.triples_are)
            (all_hold set.firsts group loads.global loads.group (record_in cpu s0).triples (record_in cpu s1).triples (record_in cpu s2).triples zero_is q.group_is p.loaded.gets.triples_are q.loaded.gets.triples_are);
      }

-- nothing was loaded
pub loaded_none : (set : Setting) (cpu : ℕ) (seats : Seats) → Loaded set cpu [] [] seats seats
loaded_none set cpu seats = record { on = on_same cpu seats; gets = gets_none set (record_in cpu seats) }
