-- Growth by single steps.
use Rattle.std.proofs.Common.{◌≡◌, ℕ, ◌≤◌, inl, Bool, true, false, cond, not, ◌==◌, List, [], ◌∷◌, map, All, sym, refl, ap, ◌∙◌, subst, arith, append-nil}
use Rattle.std.specs.List.{list_all}
use Rattle.std.proofs.lemmas.Bool.{cond_both}
use Rattle.std.proofs.lemmas.List.{map-append}
use Rattle.std.proofs.lemmas.List.Elements.{All-head, All-tail}
use Rattle.wbt_run_laws.proofs.Common.{is_same, Counter, Fold, Reading, Setting, CpuRecord, DomainLimits, is_behind, Each, Gained, HasSeen, Grew, Longer}
use Rattle.wbt_grant.specs.Laws.{NoneAhead}
use Rattle.wbt_grant.specs.Kinds
use Rattle.wbt_grant.specs.Record
use Rattle.wbt_grant.specs.Seats.{record_after, Told, told_in}
use Rattle.wbt_grant.proofs.Seats.{untold_tells_no_more}
use Rattle.wbt_grant.specs.State.{found_of}
use Rattle.wbt_grant.specs.declared.who.StepKind.TheVariants as kind
use Rattle.wbt_grant.specs.declared.who.Word.TheVariants as word
use Rattle.wbt_journal.specs.Counts.{Load, Version, loads_of, versions_of}
use Rattle.wbt_journal.specs.Told.{wrote, folded, claimed, done, gave_back}
use Rattle.wbt_run_laws.specs.Grew.{reading_of}
use Rattle.wbt_run_laws.specs.Steps.{Gathered, GatheredMore, UntoldGrows, CheckGrows, fold_made, load_made, StepsGrow}
use Rattle.wbt_run_laws.proofs.Lists.{each_append, each_weaker, each_unmap, gained_none, gained_more, gained_each, gained_was, longer_none, longer_more, and_both, list_all_append, not_ahead}

-- ---- what a record has seen

-- a version that isn't ahead, where it is of the counter
is_behind_it : (x y : Counter) (seen version : ℕ) → (is_same x y ≡ true → seen ≤ version) → is_behind x version (record { counter = y; version = seen }) ≡ true
is_behind_it x y seen version low = not_ahead (is_same x y) seen version low

-- what was ahead of nothing before a record grew
was_behind : (version : ℕ) (x : Counter) (old new : CpuRecord) (told : List Reading) → new.folds ≡ old.folds → Gained told old.readings new.readings → NoneAhead version x new → NoneAhead version x old
was_behind version x old new told folds readings none = record {
  folds_behind = subst (λ (l : List Fold). All (λ (f : Fold). is_same x f.counter ≡ true → f.version ≤ version) l) folds none.folds_behind;
  readings_behind = gained_was (λ (q : Reading). is_same x q.counter ≡ true → q.version ≤ version) told old.readings new.readings readings none.readings_behind;
}

still_seen : (old new : CpuRecord) → new.folds ≡ old.folds → new.readings ≡ old.readings → (seen : List Version) → HasSeen old seen → HasSeen new seen
still_seen old new folds readings seen has version x none = has version x (was_behind version x old new [] folds (record { more = []; longer = readings; told_in_order = tt }) none)

loads_behind : (x : Counter) (version : ℕ) (loads : List Load) → Each (λ (load : Load). is_same x load.counter ≡ true → load.count.version ≤ version) loads → list_all (is_behind x version) (versions_of loads) ≡ true
loads_behind x version [] all = refl
loads_behind x version (load ∷ loads) all =
    and_both (is_behind x version (record { counter = load.counter; version = load.count.version })) (list_all (is_behind x version) (versions_of loads))
    (is_behind_it x load.counter load.count.version version all.0) (loads_behind x version loads all.1)

-- ---- gathering

pub gathered_more : GatheredMore
gathered_more a b old mid new p q = record {
  folds = q.folds ∙ p.folds;
  events = q.events ∙ p.events;
  found_dirty = q.found_dirty ∙ p.found_dirty;
  page_steps = q.page_steps ∙ p.page_steps;
  readings = subst (λ (l : List Reading). Gained l old.readings new.readings) (sym (map-append reading_of a b))
      (gained_more (map reading_of a) (map reading_of b) old.readings mid.readings new.readings p.readings q.readings);
  limits = longer_more old.triples mid.triples new.triples p.limits q.limits;
  fresh = each_append (λ (load : Load). NoneAhead load.count.version load.counter old) a b p.fresh
      (each_weaker (λ (load : Load). NoneAhead load.count.version load.counter mid) (λ (load : Load). NoneAhead load.count.version load.counter old)
      (λ load none. was_behind load.count.version load.counter old mid (map reading_of a) p.folds p.readings none) b q.fresh);
}

-- what was gathered and isn't told
forgotten : {A : Type 0} (told old new : List A) → Gained told old new → Gained [] old new
forgotten told old new g = record { more = g.more; longer = g.longer; told_in_order = tt }

pub untold_grows : UntoldGrows
untold_grows loads old new g = record {
  folds = g.folds;
  events = g.events;
  found_dirty = g.found_dirty;
  readings = forgotten (map reading_of loads) old.readings new.readings g.readings;
  triples = g.limits;
  fresh = λ cpu. record {
    allowed = λ seen has. tt;
    reached = λ seen has version x none. has version x (was_behind version x old new (map reading_of loads) g.folds g.readings none);
  };
  page_steps = let is = g.page_steps in omega arith;
}

pub check_grows : CheckGrows
check_grows check old new g = record {
  folds = g.folds;
  events = g.events;
  found_dirty = g.found_dirty;
  readings = subst (λ (l : List Reading). Gained l old.readings new.readings) (sym (append-nil (map reading_of (loads_of check)))) g.readings;
  triples = g.limits;
  fresh = λ cpu. record {
    allowed = λ seen has. (
      each_weaker (λ (load : Load). NoneAhead load.count.version load.counter old) (λ (load : Load). list_all (is_behind load.counter load.count.version) seen ≡ true)
          (λ load none. has load.count.version load.counter none) (loads_of check) g.fresh,
      tt,
    );
    reached = λ seen has version x none. list_all_append (is_behind x version) (versions_of (loads_of check)) seen
        (loads_behind x version (loads_of check)
        (each_unmap (λ (q : Reading). is_same x q.counter ≡ true → q.version ≤ version) reading_of (loads_of check)
        (gained_each (λ (q : Reading). is_same x q.counter ≡ true → q.version ≤ version) (map reading_of (loads_of check)) old.readings new.readings g.readings none.readings_behind)))
        (has version x (was_behind version x old new (map reading_of (loads_of check)) g.folds g.readings none));
  };
  page_steps = let is = g.page_steps in omega arith;
}

-- ---- the kinds of step

maybe_more : (b : Bool) (t : DomainLimits) (old : List DomainLimits) → Longer old (cond b (t ∷ old) old)
maybe_more b t old = cond_both b (t ∷ old) old (Longer old) (λ is. record { more = t ∷ []; longer = refl }) (λ not. longer_none old)

module _ (r : CpuRecord) where
  same : (new : CpuRecord) → told_in new ≡ told_in r → Gathered [] r new
  same new is = record {
    folds = ap (λ (told : Told). told.folds) is;
    events = ap (λ (told : Told). told.events) is;
    found_dirty = ap (λ (told : Told). told.found_dirty) is;
    page_steps = ap (λ (told : Told). told.page_steps) is;
    readings = record { more = []; longer = ap (λ (told : Told). told.readings) is; told_in_order = tt };
    limits = record { more = []; longer = ap (λ (told : Told). told.triples) is };
    fresh = tt;
  }

  dirty_by : (set : Setting) (w task p found : ℕ) (dirty : Bool)
      → Grew (wrote task p (not dirty) ∷ []) r (Record.stepped kind.Dirty (word.Page p) found (Record.page_stepped (cond dirty (Record.found_already p r) (Record.dirtied set w p r))))
  dirty_by set w task p found true = record {
    folds = refl;
    events = refl;
    found_dirty = refl;
    readings = gained_none r.readings;
    triples = longer_none r.triples;
    fresh = λ cpu. record { allowed = λ seen has. (tt, tt); reached = λ seen has version x none. has version x (record { folds_behind = none.folds_behind; readings_behind = none.readings_behind }) };
    page_steps = refl;
  }
  dirty_by set w task p found false = record {
    folds = refl;
    events = refl;
    found_dirty = refl;
    readings = gained_none r.readings;
    triples = longer_none r.triples;
    fresh = λ cpu. record { allowed = λ seen has. (tt, tt); reached = λ seen has version x none. has version x (record { folds_behind = none.folds_behind; readings_behind = none.readings_behind }) };
    page_steps = refl;
  }

  claim_by : (flusher p found : ℕ) (hits : Bool) → hits ≡ true → Grew (claimed flusher p ∷ []) r (Record.stepped kind.Claim (word.Page p) found (cond hits (Record.claimed p r) r))
  claim_by flusher p found hits is = subst (λ (b : Bool). Grew (claimed flusher p ∷ []) r (Record.stepped kind.Claim (word.Page p) found (cond b (Record.claimed p r) r))) (sym is) (record {
    folds = refl;
    events = refl;
    found_dirty = refl;
    readings = gained_none r.readings;
    triples = longer_none r.triples;
    fresh = λ cpu. record { allowed = λ seen has. (tt, tt); reached = λ seen has version x none. has version x (record { folds_behind = none.folds_behind; readings_behind = none.readings_behind }) };
    page_steps = omega arith;
  })

  complete_by : (set : Setting) (flusher p found : ℕ) → Grew (done flusher p ∷ []) r (Record.stepped kind.Complete (word.Page p) found (Record.page_stepped (Record.completed set p r)))
  complete_by set flusher p found = record {
    folds = refl;
    events = refl;
    found_dirty = refl;
    readings = gained_none r.readings;
    triples = longer_none r.triples;
    fresh = λ cpu. record { allowed = λ seen has. (tt, tt); reached = λ seen has version x none. has version x (record { folds_behind = none.folds_behind; readings_behind = none.readings_behind }) };
    page_steps = refl;
  }

  gave_by : (set : Setting) (flusher p found : ℕ) (dirty : Bool)
      → Grew (gave_back flusher p dirty ∷ []) r (Record.stepped kind.Back (word.Page p) found (Record.page_stepped (Record.given_back set p dirty r)))
  gave_by set flusher p found true = record {
    folds = refl;
    events = refl;
    found_dirty = refl;
    readings = gained_none r.readings;
    triples = longer_none r.triples;
    fresh = λ cpu. record { allowed = λ seen has. (tt, tt); reached = λ seen has version x none. has version x (record { folds_behind = none.folds_behind; readings_behind = none.readings_behind }) };
    page_steps = refl;
  }
  gave_by set flusher p found false = record {
    folds = refl;
    events = refl;
    found_dirty = refl;
    readings = gained_none r.readings;
    triples = longer_none r.triples;
    fresh = λ cpu. record { allowed = λ seen has. (tt, tt); reached = λ seen has version x none. has version x (record { folds_behind = none.folds_behind; readings_behind = none.readings_behind }) };
    page_steps = refl;
  }

  back_by : (set : Setting) (flusher p found : ℕ) (dirty hits : Bool) → hits ≡ true
      → Grew (gave_back flusher p dirty ∷ []) r (Record.stepped kind.Back (word.Page p) found (cond hits (Record.page_stepped (Record.given_back set p dirty r)) r))
  back_by set flusher p found dirty hits is = subst (λ (b : Bool). Grew (gave_back flusher p dirty ∷ []) r
      (Record.stepped kind.Back (word.Page p) found (cond b (Record.page_stepped (Record.given_back set p dirty r)) r))) (sym is) (gave_by set flusher p found dirty)

  fold_by : (set : Setting) (i : ℕ) (x : Counter) (found : ℕ) → Grew (folded (fold_made set x found r) ∷ []) r
      (Record.stepped kind.Fold (word.Shared x) found (Record.folded x (fold_made set x found r).version (fold_made set x found r).delta r))
  fold_by set i x found =
      let made = fold_made set x found r in
      record {
        folds = refl;
        events = refl;
        found_dirty = refl;
        readings = gained_none r.readings;
        triples = longer_none r.triples;
        fresh = λ cpu. record {
          allowed = λ seen has. (tt, tt);
          reached = λ seen has version y none.
              let P = λ (f : Fold). is_same y f.counter ≡ true → f.version ≤ version in
              and_both (is_behind y version (record { counter = made.counter; version = made.version })) (list_all (is_behind y version) seen)
              (is_behind_it y made.counter made.version version (All-head P made r.folds none.folds_behind))
              (has version y (record { folds_behind = All-tail P made r.folds none.folds_behind; readings_behind = none.readings_behind }));
        };
        page_steps = omega arith;
      }

pub steps_grow : StepsGrow
steps_grow set found r = record {
  untold = λ step is. same r (record_after set step found r) (untold_tells_no_more set step found r is);
  counts = λ who x none. record {
    folds = refl;
    events = refl;
    found_dirty = refl;
    page_steps = refl;
    readings = record { more = reading_of (load_made x found) ∷ []; longer = refl; told_in_order = inl (refl, tt) };
    limits = longer_none r.triples;
    fresh = (none, tt);
  };
  loads_limits = λ who d. record {
    folds = refl;
    events = refl;
    found_dirty = refl;
    page_steps = refl;
    readings = gained_none r.readings;
    limits = maybe_more (Record.is_whole set (found_of d r.loading) found) (Record.read_triple set d (found_of d r.loading) found) r.triples;
    fresh = tt;
  };
  folds = λ i x. fold_by r set i x found;
  dirties = λ w task p. dirty_by r set w task p found (set.coding.page_bits found p).dirty;
  claims = λ i flusher p is. claim_by r flusher p found (found == Kinds.last_found r.last) is;
  completes = λ i flusher p. complete_by r set flusher p found;
  backs = λ i flusher p is. back_by r set flusher p found (set.coding.page_bits found p).dirty (found == Kinds.last_found r.last) is;
}
