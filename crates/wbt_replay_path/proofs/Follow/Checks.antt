-- What a check under way has, after one of its loads.
use Rattle.std.proofs.Common.{◌≡◌, ◌≢◌, ℕ, zero, suc, ◌<◌, inl, inr, Bool, true, false, ◌||◌, cond, eqb, Some, None, List, [], ◌∷◌, ◌++◌, refl, sym, ◌∙◌, ap, subst, append_assoc, arith, eq-eqb, ne_eqb, true≢false, ⊎_elim}
use Rattle.std.proofs.lemmas.Bool.{cond-true, cond-false}
use Rattle.std.specs.List.{list_any}
use Rattle.wbt_replay_order.proofs.Common.{Count, Counter, Reading, at_least_zero, DomainLimits, WriterRecord, Setting, held_of, limits_kept, count_kept, Found, Held, ReplayTurn, Todo, reading_of, held_as, AreAmong, is_limits_of, KeepsLoads, AreLoads, HoldsLoads, turn_readings}
use Rattle.wbt_counter.specs.declared.counter.Counter.TheVariants.{Domain as ofDomain, Context as ofContext}
use Rattle.wbt_grant.specs.declared.record.Kept.{Kept}
use Rattle.wbt_grant.specs.Record.{keeping, keeping_limits, keeping_reading}
use Rattle.wbt_grant.specs.State.{kept_of}
use Rattle.wbt_grant.proofs.Entries.{kept_of-with}
use Rattle.wbt_replay_moves.specs.declared.todo.Step.TheVariants as item
use Rattle.wbt_replay_moves.specs.declared.todo.Todo.TheVariants as todo
use Rattle.wbt_replay_order.specs.Claims.Path.{is_count_of, is_context_count}
use Rattle.wbt_replay_order.specs.Kept.Following.{IsNeeded, loaded_as, one_reading, group_readings}

-- ---- lists among lists

pub among_more : {A : Type 0} (xs ys : List A) (y : A) → AreAmong xs ys → AreAmong xs (y ∷ ys)
among_more [] ys y h = tt
among_more (x ∷ xs) ys y h = inr h

-- the newest may come first
first_among : {A : Type 0} (b : Bool) (y : A) (xs ys : List A) → AreAmong xs ys → AreAmong (cond b [] (y ∷ []) ++ xs) (y ∷ ys)
first_among true y xs ys h = among_more xs ys y h
first_among false y xs ys h = inl (refl, h)

-- what is still ahead isn't there
skipped : {A : Type 0} (b : Bool) (x : A) (xs those : List A) → b ≡ true → AreAmong (cond b [] (x ∷ []) ++ xs) those → AreAmong xs those
skipped b x xs those e h = subst (λ (c : Bool). AreAmong (cond c [] (x ∷ []) ++ xs) those) e h

unseen : {A : Type 0} (b : Bool) (x : A) (xs those : List A) → b ≡ true → AreAmong xs those → AreAmong (cond b [] (x ∷ []) ++ xs) those
unseen b x xs those e h = subst (λ (c : Bool). AreAmong (cond c [] (x ∷ []) ++ xs) those) (sym e) h

-- ---- the first item of a list

abbrev limits_item : (d : ℕ) → Todo
limits_item d = todo.Step (item.Limits d)

abbrev count_item : (x : Counter) → Todo
count_item x = todo.Step (item.Count x)

hit : (f : Todo → Bool) (x : Todo) (ts : List Todo) → f x ≡ true → list_any f (x ∷ ts) ≡ true
hit f x ts e = ap (λ (b : Bool). b || list_any f ts) e

miss : (f : Todo → Bool) (x : Todo) (ts : List Todo) → f x ≡ false → list_any f (x ∷ ts) ≡ list_any f ts
miss f x ts e = ap (λ (b : Bool). b || list_any f ts) e

is_itself : (d : ℕ) → eqb d d ≡ true
is_itself d = eq-eqb d d refl

zero_not : (g : ℕ) → eqb 0 (suc g) ≡ false
zero_not g = ne_eqb 0 (suc g) (λ e. absurd (cc e))

not_zero : (g : ℕ) → eqb (suc g) 0 ≡ false
not_zero g = ne_eqb (suc g) 0 (λ e. absurd (cc e))

pub at_group : (g d : ℕ) → IsNeeded g (suc d) → suc d ≡ g
at_group g d needed = ⊎_elim (λ e. absurd (cc e)) (λ p. p.0) needed

none : {P : Type 0} (b : Bool) → b ≡ true → b ≡ false → P
none b e n = absurd (true≢false (sym e ∙ n))

-- ---- what is told, in another grouping

-- those of the domains, in front of older ones
abbrev of_domains : (g : ℕ) (turn : ReplayTurn) (todos : List Todo) (older : List Reading) → List Reading
of_domains g turn todos older = group_readings g turn todos ++ (one_reading (list_any (is_count_of 0) todos) (ofDomain 0) turn.global.count ++ older)

abbrev near_readings : (context g : ℕ) (turn : ReplayTurn) (todos : List Todo) (older : List Reading) → List Reading
near_readings context g turn todos older = one_reading (list_any is_context_count todos) (ofContext context) turn.context ++ of_domains g turn todos older

readings_near : (context g : ℕ) (turn : ReplayTurn) (todos : List Todo) (older : List Reading) → turn_readings context g turn todos older ≡ near_readings context g turn todos older
readings_near context g turn todos older =
    let front : List Reading = one_reading (list_any is_context_count todos) (ofContext context) turn.context in
    let middle : List Reading = group_readings g turn todos in
    let last : List Reading = one_reading (list_any (is_count_of 0) todos) (ofDomain 0) turn.global.count in
    append_assoc (front ++ middle) last older ∙ append_assoc front middle (last ++ older)

-- ---- loads of limits

module _ (context : ℕ) (turn : ReplayTurn) (ts : List Todo) where
  pub first_readings : (g d : ℕ) (found : Found) (older : List Reading)
      → turn_readings context g (record turn { found = found }) ts older ≡ turn_readings context g turn (todo.Step (item.First d) ∷ ts) older
  first_readings zero d found older = refl
  first_readings (suc g) d found older = refl

  pub middle_readings : (g d : ℕ) (older : List Reading)
      → turn_readings context g turn ts older ≡ turn_readings context g turn (todo.Step (item.Middle d) ∷ ts) older
  middle_readings zero d older = refl
  middle_readings (suc g) d older = refl

  pub limits_readings : (g d : ℕ) (held : Held) (older : List Reading)
      → turn_readings context g (limits_kept d held turn) ts older ≡ turn_readings context g turn (limits_item d ∷ ts) older
  limits_readings zero zero held older = refl
  limits_readings zero (suc d) held older = refl
  limits_readings (suc g) zero held older = refl
  limits_readings (suc g) (suc d) held older = refl

  pub limits_holds : (set : Setting) (g d : ℕ) (held : Held) (old new : List DomainLimits) → AreLoads context g (limits_item d ∷ ts)
      → held_of set d new ≡ held_as d held → ((e : ℕ) → e ≢ d → held_of set e new ≡ held_of set e old)
      → HoldsLoads set turn (limits_item d ∷ ts) g old → HoldsLoads set (limits_kept d held turn) ts g new
  limits_holds set g zero held old new loads here others h = record {
    global = λ done. here;
    cgroup = λ some done. none _ (loads.3 refl some) done;
  }
  limits_holds set g (suc d) held old new loads here others h = record {
    global = λ done. others 0 (λ same. absurd (cc same)) ∙ h.global (miss (is_limits_of 0) (limits_item (suc d)) ts (not_zero d) ∙ done);
    cgroup = λ some done. subst (λ (n : ℕ). held_of set n new ≡ loaded_as n (limits_kept (suc d) held turn).cgroup) (at_group g d loads.0) here;
  }

  global_keeps : (g : ℕ) (held : Held) (x : WriterRecord) → AreLoads context g (limits_item 0 ∷ ts) → KeepsLoads turn (limits_item 0 ∷ ts) g x
      → KeepsLoads (limits_kept 0 held turn) ts g (keeping_limits 0 held.limits x)
  global_keeps g held x loads k =
      let now : Kept = record { domain = 0; limits = Some held.limits; reading = None } in
      record {
        global_limits = λ done. ap (λ (q : Kept). q.limits) (kept_of-with 0 now x.kept);
        global_count = λ done. none _ loads.1 done;
        cgroup_limits = λ some done. none _ (loads.3 refl some) done;
        cgroup_count = λ some done. ap (λ (q : Kept). q.reading) (kept_of-with g now x.kept ∙ cond-false (eqb g 0) now (kept_of g x.kept) (ne_eqb g 0 (λ e. absurd (omega (arith, e, some)))))
            ∙ k.cgroup_count some done;
        context_count = k.context_count;
      }

  group_keeps : (g : ℕ) (held : Held) (x : WriterRecord) → AreLoads context (suc g) (limits_item (suc g) ∷ ts) → KeepsLoads turn (limits_item (suc g) ∷ ts) (suc g) x
      → KeepsLoads (limits_kept (suc g) held turn) ts (suc g) (keeping_limits (suc g) held.limits x)
  group_keeps g held x loads k =
      let now : Kept = record { domain = suc g; limits = Some held.limits; reading = None } in
      let other = kept_of-with 0 now x.kept ∙ cond-false (eqb 0 (suc g)) now (kept_of 0 x.kept) (zero_not g) in
      let its = kept_of-with (suc g) now x.kept ∙ cond-true (eqb (suc g) (suc g)) now (kept_of (suc g) x.kept) (is_itself (suc g)) in
      record {
        global_limits = λ done. ap (λ (q : Kept). q.limits) other ∙ k.global_limits (miss (is_limits_of 0) (limits_item (suc g)) ts (not_zero g) ∙ done);
        global_count = λ done. ap (λ (q : Kept). q.reading) other ∙ k.global_count done;
        cgroup_limits = λ some done. ap (λ (q : Kept). q.limits) its;
        cgroup_count = λ some done. none _ loads.1 done;
        context_count = k.context_count;
      }

  pub limits_keeps : (g d : ℕ) (held : Held) (x : WriterRecord) → AreLoads context g (limits_item d ∷ ts) → KeepsLoads turn (limits_item d ∷ ts) g x
      → KeepsLoads (limits_kept d held turn) ts g (keeping_limits d held.limits x)
  limits_keeps g zero held x loads k = global_keeps g held x loads k
  limits_keeps g (suc d) held x loads k =
      let e = at_group g d loads.0 in
      subst (λ (n : ℕ). KeepsLoads (limits_kept (suc d) held turn) ts n (keeping_limits (suc d) held.limits x)) e
      (group_keeps d held x (subst (λ (n : ℕ). AreLoads context n (limits_item (suc d) ∷ ts)) (sym e) loads)
      (subst (λ (n : ℕ). KeepsLoads turn (limits_item (suc d) ∷ ts) n x) (sym e) k))

-- ---- loads of counts

module _ (context : ℕ) (turn : ReplayTurn) (ts : List Todo) (count : Count) where
  pub count_holds : (set : Setting) (g : ℕ) (x : Counter) (triples : List DomainLimits) → HoldsLoads set turn (count_item x ∷ ts) g triples
      → HoldsLoads set (count_kept x count turn) ts g triples
  count_holds set g (ofDomain zero) triples h = record { global = h.global; cgroup = h.cgroup }
  count_holds set g (ofDomain (suc d)) triples h = record { global = h.global; cgroup = h.cgroup }
  count_holds set g (ofContext k) triples h = record { global = h.global; cgroup = h.cgroup }

  abbrev cgroup_reading : (g : ℕ) → Reading
  cgroup_reading g = reading_of (ofDomain (suc g)) turn.cgroup.count

  abbrev global_reading : (todos : List Todo) (older : List Reading) → List Reading
  global_reading todos older = one_reading (list_any (is_count_of 0) todos) (ofDomain 0) turn.global.count ++ older

  global_readings : (g : ℕ) (older those : List Reading) → AreLoads context g (count_item (ofDomain 0) ∷ ts)
      → AreAmong (of_domains g turn (count_item (ofDomain 0) ∷ ts) older) those
      → AreAmong (of_domains g (count_kept (ofDomain 0) count turn) ts older) (reading_of (ofDomain 0) count ∷ those)
  global_readings zero older those loads h =
      first_among (list_any (is_count_of 0) ts) (reading_of (ofDomain 0) count) older those
      (skipped (list_any (is_count_of 0) (count_item (ofDomain 0) ∷ ts)) (reading_of (ofDomain 0) turn.global.count) older those (hit (is_count_of 0) (count_item (ofDomain 0)) ts (is_itself 0)) h)
  global_readings (suc g) older those loads h =
      let later = loads.2 refl (omega arith) in
      unseen (list_any (is_count_of (suc g)) ts) (cgroup_reading g) (one_reading (list_any (is_count_of 0) ts) (ofDomain 0) count ++ older) (reading_of (ofDomain 0) count ∷ those) later
      (first_among (list_any (is_count_of 0) ts) (reading_of (ofDomain 0) count) older those
      (skipped (list_any (is_count_of 0) (count_item (ofDomain 0) ∷ ts)) (reading_of (ofDomain 0) turn.global.count) older those (hit (is_count_of 0) (count_item (ofDomain 0)) ts (is_itself 0))
      (skipped (list_any (is_count_of (suc g)) (count_item (ofDomain 0) ∷ ts)) (cgroup_reading g) (global_reading (count_item (ofDomain 0) ∷ ts) older) those
      (miss (is_count_of (suc g)) (count_item (ofDomain 0)) ts (zero_not g) ∙ later) h)))

  cgroup_readings : (g : ℕ) (older those : List Reading)
      → AreAmong (of_domains (suc g) turn (count_item (ofDomain (suc g)) ∷ ts) older) those
      → AreAmong (of_domains (suc g) (count_kept (ofDomain (suc g)) count turn) ts older) (reading_of (ofDomain (suc g)) count ∷ those)
  cgroup_readings g older those h =
      first_among (list_any (is_count_of (suc g)) ts) (reading_of (ofDomain (suc g)) count) (global_reading ts older) those
      (subst (λ (b : Bool). AreAmong (cond b [] (reading_of (ofDomain 0) turn.global.count ∷ []) ++ older) those) (miss (is_count_of 0) (count_item (ofDomain (suc g))) ts (not_zero g))
      (skipped (list_any (is_count_of (suc g)) (count_item (ofDomain (suc g)) ∷ ts)) (cgroup_reading g) (global_reading (count_item (ofDomain (suc g)) ∷ ts) older) those
      (hit (is_count_of (suc g)) (count_item (ofDomain (suc g))) ts (is_itself (suc g))) h))

  domain_readings : (g d : ℕ) (older those : List Reading) → AreLoads context g (count_item (ofDomain d) ∷ ts)
      → AreAmong (of_domains g turn (count_item (ofDomain d) ∷ ts) older) those
      → AreAmong (of_domains g (count_kept (ofDomain d) count turn) ts older) (reading_of (ofDomain d) count ∷ those)
  domain_readings g zero older those loads h = global_readings g older those loads h
  domain_readings g (suc d) older those loads h =
      let e = at_group g d loads.0 in
      subst (λ (n : ℕ). AreAmong (of_domains n (count_kept (ofDomain (suc d)) count turn) ts older) (reading_of (ofDomain (suc d)) count ∷ those)) e
      (cgroup_readings d older those (subst (λ (n : ℕ). AreAmong (of_domains n turn (count_item (ofDomain (suc d)) ∷ ts) older) those) (sym e) h))

  -- a load of the context leaves what was loaded of the domains
  same_domains : (g k : ℕ) (older : List Reading) → of_domains g (count_kept (ofContext k) count turn) ts older ≡ of_domains g turn (count_item (ofContext k) ∷ ts) older
  same_domains zero k older = refl
  same_domains (suc g) k older = refl

  count_near : (g : ℕ) (x : Counter) (older those : List Reading) → AreLoads context g (count_item x ∷ ts)
      → AreAmong (near_readings context g turn (count_item x ∷ ts) older) those
      → AreAmong (near_readings context g (count_kept x count turn) ts older) (reading_of x count ∷ those)
  count_near g (ofContext k) older those loads h =
      subst (λ (n : ℕ). AreAmong (near_readings context g (count_kept (ofContext k) count turn) ts older) (reading_of (ofContext n) count ∷ those)) (sym loads.0)
      (first_among (list_any is_context_count ts) (reading_of (ofContext context) count) (of_domains g (count_kept (ofContext k) count turn) ts older) those
      (subst (λ (l : List Reading). AreAmong l those) (sym (same_domains g k older)) h))
  count_near g (ofDomain d) older those loads h =
      unseen (list_any is_context_count ts) (reading_of (ofContext context) (count_kept (ofDomain d) count turn).context) (of_domains g (count_kept (ofDomain d) count turn) ts older) (reading_of (ofDomain d) count ∷ those) loads.1
      (domain_readings g d older those loads
      (skipped (list_any is_context_count ts) (reading_of (ofContext context) turn.context) (of_domains g turn (count_item (ofDomain d) ∷ ts) older) those loads.1 h))

  pub count_readings : (g : ℕ) (x : Counter) (older those : List Reading) → AreLoads context g (count_item x ∷ ts)
      → AreAmong (turn_readings context g turn (count_item x ∷ ts) older) those
      → AreAmong (turn_readings context g (count_kept x count turn) ts older) (reading_of x count ∷ those)
  count_readings g x older those loads h =
      subst (λ (l : List Reading). AreAmong l (reading_of x count ∷ those)) (sym (readings_near context g (count_kept x count turn) ts older))
      (count_near g x older those loads (subst (λ (l : List Reading). AreAmong l those) (readings_near context g turn (count_item x ∷ ts) older) h))

  global_count_keeps : (g : ℕ) (x : WriterRecord) → AreLoads context g (count_item (ofDomain 0) ∷ ts) → KeepsLoads turn (count_item (ofDomain 0) ∷ ts) g x
      → KeepsLoads (count_kept (ofDomain 0) count turn) ts g (keeping (record { domain = 0; limits = (kept_of 0 x.kept).limits; reading = Some (at_least_zero count.value) }) x)
  global_count_keeps g x loads k =
      let now : Kept = record { domain = 0; limits = (kept_of 0 x.kept).limits; reading = Some (at_least_zero count.value) } in
      let its = kept_of-with 0 now x.kept in
      let other : 0 < g → kept_of g (keeping now x).kept ≡ kept_of g x.kept =
      λ some. kept_of-with g now x.kept ∙ cond-false (eqb g 0) now (kept_of g x.kept) (ne_eqb g 0 (λ e. absurd (omega (arith, e, some)))) in
      record {
        global_limits = λ done. ap (λ (q : Kept). q.limits) its ∙ k.global_limits done;
        global_count = λ done. ap (λ (q : Kept). q.reading) its;
        cgroup_limits = λ some done. ap (λ (q : Kept). q.limits) (other some) ∙ k.cgroup_limits some done;
        cgroup_count = λ some done. none _ (loads.2 refl some) done;
        context_count = λ done. none _ loads.1 done;
      }

  cgroup_count_keeps : (g : ℕ) (x : WriterRecord) → AreLoads context (suc g) (count_item (ofDomain (suc g)) ∷ ts) → KeepsLoads turn (count_item (ofDomain (suc g)) ∷ ts) (suc g) x
      → KeepsLoads (count_kept (ofDomain (suc g)) count turn) ts (suc g) (keeping (record { domain = suc g; limits = (kept_of (suc g) x.kept).limits; reading = Some (at_least_zero count.value) }) x)
  cgroup_count_keeps g x loads k =
      let now : Kept = record { domain = suc g; limits = (kept_of (suc g) x.kept).limits; reading = Some (at_least_zero count.value) } in
      let other = kept_of-with 0 now x.kept ∙ cond-false (eqb 0 (suc g)) now (kept_of 0 x.kept) (zero_not g) in
      let its = kept_of-with (suc g) now x.kept ∙ cond-true (eqb (suc g) (suc g)) now (kept_of (suc g) x.kept) (is_itself (suc g)) in
      record {
        global_limits = λ done. ap (λ (q : Kept). q.limits) other ∙ k.global_limits done;
        global_count = λ done. ap (λ (q : Kept). q.reading) other ∙ k.global_count (miss (is_count_of 0) (count_item (ofDomain (suc g))) ts (not_zero g) ∙ done);
        cgroup_limits = λ some done. ap (λ (q : Kept). q.limits) its ∙ k.cgroup_limits some done;
        cgroup_count = λ some done. ap (λ (q : Kept). q.reading) its;
        context_count = λ done. none _ loads.1 done;
      }

  -- the context is the writer's
  pub count_keeps : (set : Setting) (w g : ℕ) (x : Counter) (writer : WriterRecord) → set.works_in w ≡ context → AreLoads context g (count_item x ∷ ts)
      → KeepsLoads turn (count_item x ∷ ts) g writer
      → KeepsLoads (count_kept x count turn) ts g (keeping_reading set w x (at_least_zero count.value) writer)
  count_keeps set w g (ofDomain zero) writer works loads k = global_count_keeps g writer loads k
  count_keeps set w g (ofDomain (suc d)) writer works loads k =
      let e = at_group g d loads.0 in
      subst (λ (n : ℕ). KeepsLoads (count_kept (ofDomain (suc d)) count turn) ts n (keeping_reading set w (ofDomain (suc d)) (at_least_zero count.value) writer)) e
      (cgroup_count_keeps d writer (subst (λ (n : ℕ). AreLoads context n (count_item (ofDomain (suc d)) ∷ ts)) (sym e) loads)
      (subst (λ (n : ℕ). KeepsLoads turn (count_item (ofDomain (suc d)) ∷ ts) n writer) (sym e) k))
  count_keeps set w g (ofContext c) writer works loads k =
      let yes : eqb (set.works_in w) c ≡ true = eq-eqb (set.works_in w) c (works ∙ sym loads.0) in
      let next : WriterRecord = record writer { context_reading = Some (at_least_zero count.value) } in
      subst (λ (q : WriterRecord). KeepsLoads (count_kept (ofContext c) count turn) ts g q) (sym (cond-true (eqb (set.works_in w) c) next writer yes)) (record {
        global_limits = k.global_limits;
        global_count = k.global_count;
        cgroup_limits = k.cgroup_limits;
        cgroup_count = k.cgroup_count;
        context_count = λ done. refl;
      })
