-- The estimates of a journal are those that were published, and what was read is of these.
use Rattle.std.proofs.Common.{◌≡◌, ◌≢◌, ℕ, zero, suc, ◌+◌, ◌<◌, ◌≤◌, Bool, true, false, cond, eqb, nat_lt, Some, None, Option, IfSome, List, [], ◌∷◌, ◌++◌, length, map, append_assoc, flat_map, get_or, Contains, sym, refl, ap, ◌∙◌, subst, arith, eq-eqb, append-nil}
use Rattle.std.proofs.lemmas.Bool.{cond-true, ltb-true}
use Rattle.std.proofs.lemmas.List.Elements.{All-contains}
use mathlib.Core.Option.{some, some-injective, some-ne-none}
use lib.ListN.{get_elem?}
use Rattle.wbt_run_laws.proofs.Common.{Estimate, first_in, first_one, IsAmong, first_estimates, Trace, Each, effect, of_part, estimates_of, Follows, Item, begins, tells, items_from, parts_of, all_told, contexts, Told, Along, EstEntry, Journal, newer, IsOwn, part_at, Run, Worked}
use Rattle.wbt_published.specs.Known.{note_of}
use Rattle.wbt_published.proofs.Places.{note_other}
use Rattle.wbt_rules.specs.First.{first_estimate}
use Rattle.wbt_rules.proofs.Openings.{first_in_range}
use Rattle.wbt_journal.specs.Checks.{nth_estimate}
use Rattle.wbt_journal.specs.Estimates.{estimate_in, newest_of, IsNext, EstimatesFollow, estimates_after}
use Rattle.wbt_run_laws.specs.Laws.{WorkedEstimatesAreUp}
use Rattle.wbt_run_laws.proofs.Counting.{many, set_cpus, in_parts, all_is, own_part}
use Rattle.wbt_run_laws.proofs.Lists.{flat_append, each_weaker}
use Rattle.wbt_run_laws.proofs.Parts.{joined, each_cpu, each_item}
use Rattle.wbt_run_laws.proofs.Timing.{opened_is}

-- ---- what one part alone tells

silent_parts : {A : Type 0} (tell : Told → List A) (parts : List (List Told)) → ((c : ℕ) → c < length parts → flat_map tell (get_or parts c []) ≡ []) → flat_map tell (joined parts) ≡ []
silent_parts tell [] none = refl
silent_parts {A} tell (part ∷ parts) none = flat_append tell part (joined parts) ∙ ap (λ (l : List A). l ++ flat_map tell (joined parts)) (none 0 (omega arith))
    ∙ silent_parts tell parts (λ c less. none (suc c) (omega arith))

only_part : {A : Type 0} (tell : Told → List A) (parts : List (List Told)) (p : ℕ) → p < length parts → ((c : ℕ) → c < length parts → c ≢ p → flat_map tell (get_or parts c []) ≡ [])
    → flat_map tell (joined parts) ≡ flat_map tell (get_or parts p [])
only_part tell [] p less none = absurd (omega arith)
only_part {A} tell (part ∷ parts) zero less none = flat_append tell part (joined parts)
    ∙ ap (λ (l : List A). flat_map tell part ++ l) (silent_parts tell parts (λ c low. none (suc c) (omega arith) (λ e. omega arith))) ∙ append-nil (flat_map tell part)
only_part {A} tell (part ∷ parts) (suc p) less none = flat_append tell part (joined parts)
    ∙ ap (λ (l : List A). l ++ flat_map tell (joined parts)) (none 0 (omega arith) (λ e. omega arith))
    ∙ only_part tell parts p (omega arith) (λ c low other. none (suc c) (omega arith) (λ e. other (omega arith)))

-- ---- a run's estimates

module _ (trace : Trace) (j : Journal) (r : Run) (w : Worked trace j r) (context : ℕ) (low : context < contexts trace) where
  abbrev publisher : ℕ
  publisher = r.publisher context

  publisher_is : publisher < trace.cpus
  publisher_is = w.passes_tell.publishers context low

  part_estimates : estimates_of context (all_told j) ≡ estimates_of context (part_at j publisher)
  part_estimates = ap (estimates_of context) (all_is trace j r w)
      ∙ only_part (estimate_in context) (parts_of j) publisher (subst (λ (n : ℕ). publisher < n) (sym (many trace j r w ∙ set_cpus trace j r w)) publisher_is)
      (λ c less other. let there = in_parts trace j r w c less in
      ((w.since c there).estimates.each context).silent (w.passes_tell.no_other c context there low other))

  -- all that was published is what the journal tells
  pub known_is : (r.all_known context).all ≡ first_one ∷ estimates_of context (all_told j)
  known_is =
      w.passes_tell.all_are context low
      ∙ ((w.since publisher publisher_is).estimates.each context).published (w.passes_tell.publishes context low)
      ∙ ap (λ (l : List Estimate). l ++ estimates_of context (part_at j publisher)) (w.passes_tell.opens context low)
      ∙ ap (λ (l : List Estimate). first_one ∷ l) (sym part_estimates)

  -- the context is there, so that the first estimate in its place is its own
  pub first_is : first_in (first_estimates trace r.opened) context ≡ first_estimate trace context r.opened
  first_is = first_in_range trace context r.opened first_one low

  pub they_follow : Along Follows newer (first_estimate trace context r.opened) (estimates_of context (all_told j))
  they_follow = subst (λ (first : Estimate). Along Follows newer first (estimates_of context (all_told j))) first_is
      (subst (λ (l : List Estimate). Along Follows newer (first_in (first_estimates trace r.opened) context) l) (sym part_estimates)
      (((w.since publisher publisher_is).estimates.each context).follow.allowed (first_in (first_estimates trace r.opened) context)
      (record { later = []; all_are = w.passes_tell.opens context low; newest_is = refl })))

-- ---- one after another

abbrev in_item : (context : ℕ) (i : Item) → List Estimate
in_item context (begins cpu) = []
in_item context (tells cpu e) = estimate_in context e

abbrev IsNamed : (trace : Trace) (i : Item) → Type 0
IsNamed trace (begins cpu) = Unit {0}
IsNamed trace (tells cpu e) = IfSome (effect e).estimate (λ (est : EstEntry). nat_lt est.context (contexts trace) ≡ true)

items_are : (context cpu : ℕ) (parts : List (List Told)) → flat_map (in_item context) (items_from cpu parts) ≡ estimates_of context (joined parts)
items_are context cpu [] = refl
items_are context cpu (part ∷ parts) = one_part part (items_from (cpu + 1) parts) ∙ ap (λ (l : List Estimate). estimates_of context part ++ l) (items_are context (cpu + 1) parts)
    ∙ sym (flat_append (estimate_in context) part (joined parts))
  where
    one_part : (part : List Told) (rest : List Item) → flat_map (in_item context) (map (tells cpu) part ++ rest) ≡ estimates_of context part ++ flat_map (in_item context) rest
    one_part [] rest = refl
    one_part (e ∷ part) rest = ap (λ (l : List Estimate). estimate_in context e ++ l) (one_part part rest) ∙ sym (append_assoc (estimate_in context e) (estimates_of context part) (flat_map (in_item context) rest))

by_context : (own : Bool) (before estimate : Estimate) (rest : List Estimate) → Along Follows newer before (cond own (estimate ∷ []) [] ++ rest) → Along Follows newer (cond own estimate before) rest
by_context true before estimate rest along = along.1
by_context false before estimate rest along = along

-- one entry's estimate, which may be there, before these of each context
module _ (trace : Trace) (opened : ℕ) (seen : List EstEntry) (more : ℕ → List Estimate) where
  abbrev AllFollow : (part : Option EstEntry) → Type 0
  AllFollow part = (context : ℕ) → context < contexts trace
      → Along Follows newer (newest_of trace opened context seen) (of_part [] (λ (est : EstEntry). cond (eqb est.context context) (est.estimate ∷ []) []) part ++ more context)

  is_next : (part : Option EstEntry) → IfSome part (λ (est : EstEntry). nat_lt est.context (contexts trace) ≡ true) → AllFollow part → IfSome part (IsNext trace opened seen)
  is_next None named follow = tt
  is_next (Some est) named follow =
      let context = est.context in
      let own : cond (eqb context context) (est.estimate ∷ []) [] ≡ est.estimate ∷ [] = cond-true (eqb context context) (est.estimate ∷ []) [] (eq-eqb context context refl) in
      let here = subst (λ (l : List Estimate). Along Follows newer (newest_of trace opened context seen) (l ++ more context)) own (follow context (ltb-true context (contexts trace) named)) in
      record { named = named; follows_last = here.0 }

  follow_on : (part : Option EstEntry) → AllFollow part → (context : ℕ) → context < contexts trace
      → Along Follows newer (newest_of trace opened context (of_part seen (λ est. est ∷ seen) part)) (more context)
  follow_on None follow context less = follow context less
  follow_on (Some est) follow context less = by_context (eqb est.context context) (newest_of trace opened context seen) est.estimate (more context) (follow context less)

up : (trace : Trace) (opened : ℕ) (seen : List EstEntry) (items : List Item) → Each (IsNamed trace) items
    → ((context : ℕ) → context < contexts trace → Along Follows newer (newest_of trace opened context seen) (flat_map (in_item context) items)) → Along (EstimatesFollow trace opened) estimates_after seen items
up trace opened seen [] named follow = tt
up trace opened seen (begins cpu ∷ items) named follow = (tt, up trace opened seen items named.1 follow)
up trace opened seen (tells cpu e ∷ items) named follow =
    let more = λ (context : ℕ). flat_map (in_item context) items in (
      is_next trace opened seen more (effect e).estimate named.0 follow,
      up trace opened (estimates_after seen (tells cpu e)) items named.1 (follow_on trace opened seen more (effect e).estimate follow),
    )

pub estimates_up : WorkedEstimatesAreUp
estimates_up trace j r w = subst (λ (n : ℕ). Along (EstimatesFollow trace n) estimates_after [] (items_from 0 (parts_of j))) (sym (opened_is trace j r w))
    (up trace r.opened [] (items_from 0 (parts_of j))
    (each_item (IsNamed trace) (λ c. tt) 0 (parts_of j) (each_cpu (λ c part. Each (λ (e : Told). IsNamed trace (tells c e)) part) (parts_of j)
    (λ c less. each_weaker (IsOwn trace c) (λ (e : Told). IsNamed trace (tells c e)) (λ e own. own.estimate) (part_at j c) (own_part trace j r w c (in_parts trace j r w c less)))))
    (λ context low. subst (λ (l : List Estimate). Along Follows newer (first_estimate trace context r.opened) l) (ap (estimates_of context) (all_is trace j r w) ∙ sym (items_are context 0 (parts_of j))) (they_follow trace j r w context low)))

-- ---- what was read

nth_of : (place : ℕ) (xs : List Estimate) (e : Estimate) → get_elem? xs place ≡ some e → nth_estimate place xs ≡ Some e
nth_of place [] e is = absurd (some-ne-none e (sym is))
nth_of zero (x ∷ xs) e is = ap Some (some-injective x e is)
nth_of (suc place) (x ∷ xs) e is = nth_of place xs e is

-- the estimate of a version among the first one and these, where its note is among all that was published
nth_by : (first : Estimate) (v : ℕ) (later : List Estimate) (e : Estimate) → e.version ≡ v → (e.version ≡ 0 → e ≡ first) → IsAmong (first_one ∷ later) (note_of e)
    → nth_estimate v (first ∷ later) ≡ Some e
nth_by first zero later e version is_first among = ap Some (sym (is_first version))
nth_by first (suc v) later e version is_first among =
    let other : e.version ≢ 0 = λ none. omega arith in
    let is : note_of e ≡ e = note_other e other in
    let at : get_elem? (first_one ∷ later) e.version ≡ some e = subst (λ (n : Estimate). get_elem? (first_one ∷ later) n.version ≡ some n) is among in
    nth_of v later e (subst (λ (n : ℕ). get_elem? (first_one ∷ later) n ≡ some e) version at)

pub nth_within : (v : ℕ) (first : Estimate) (later : List Estimate) (e : Estimate) → nth_estimate v (first ∷ later) ≡ Some e → v ≤ length later
nth_within zero first later e is = omega arith
nth_within (suc v) first [] e is = absurd (none is)
  where
    none : ◌≡◌ {A = Option Estimate} None (Some e) → ⊥
    none is = cc
nth_within (suc v) first (x ∷ xs) e is = let rest = nth_within v x xs e is in omega arith

-- an estimate that a CPU read is the one that the journal has of its version
pub read_is_told : (trace : Trace) (j : Journal) (r : Run) → Worked trace j r → (c context : ℕ) → c < trace.cpus → context < contexts trace → (e : Estimate)
    → (e.version ≡ 0 → e ≡ first_in (first_estimates trace r.opened) context) → Contains ((r.notes c).estimates context).reads (note_of e)
    → nth_estimate e.version (first_estimate trace context r.opened ∷ estimates_of context (all_told j)) ≡ Some e
read_is_told trace j r w c context there low e first read =
    let complete = w.passes_tell.complete context low in
    let among = All-contains (IsAmong (r.all_known context).all) (r.all_known context).reads (note_of e) complete.read (w.passes_tell.have c context there low (note_of e) read) in
    nth_by (first_estimate trace context r.opened) e.version (estimates_of context (all_told j)) e refl (λ is. first is ∙ first_is trace j r w context low) (subst (λ (l : List Estimate). IsAmong l (note_of e)) (known_is trace j r w context low) among)
