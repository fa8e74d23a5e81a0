-- What the flusher's CPU loaded, one load after another.
use Rattle.std.proofs.Common.{◌≡◌, ℕ, ◌+◌, Bool, true, false, cond, eqb, ◌⊎◌, inl, inr, ⊎_elim, List, [], ◌∷◌, ◌++◌, map, length, refl, sym, ap, ◌∙◌, subst, arith, eq-eqb, length-append}
use Rattle.std.specs.Prelude.{◌↔◌, IsTrue, IfSome, Option, Some, None}
use Rattle.std.proofs.lemmas.Bool.{cond-true}
use Rattle.std.proofs.lemmas.List.{map-append}
use Rattle.wbt_flusher.proofs.Common.{Counter, count, record_after, CpuRecord, Load, setting, Changes, Triple, Cpu, Kit, Seats, load_of, triple_of, DomainLoad, record_of, record_is, Fits, ReadOthers}
use Rattle.wbt_kit.proofs.Common.{Count, Reading, is_whole, read_triple, found_of, newest_of, DomainLimits, Limits, whole_load, Layout}
use Rattle.wbt_grant.specs.Kinds as kind
use Rattle.wbt_limits.specs.Limits.{IsOverBackground}
use Rattle.wbt_run_steps.specs.Loads.{LoadsCount, LoadsLimits, held_as, one}
use Rattle.wbt_table.specs.Calls.{record_of as made_of}
use Rattle.wbt_run_laws.specs.Grew.{onto, reading_of}
use Rattle.wbt_run_laws.specs.Held.{IsHeld}
use Rattle.wbt_run_laws.proofs.Lists.{onto_append}
use Rattle.wbt_flusher.specs.Loads.{AnyOver, AreFrom, IsOver, Loaded, LoadsEach, LoadsOnce, ReadDomain, Tested}
use Rattle.wbt_flusher.specs.declared.background.Read.{Read}
use Rattle.wbt_flusher.specs.declared.background.Test.{Test}
use Rattle.wbt_flusher.specs.declared.plan.FlusherPlan.{FlusherPlan}
use Rattle.wbt_flusher.proofs.Changing.{changed}

-- ---- limits that were held

each_more : (firsts : ℕ → Limits) (s t old mid new : List DomainLimits) → LoadsEach firsts s old mid → LoadsEach firsts t mid new → LoadsEach firsts (s ++ t) old new
each_more firsts [] t old mid new p q = subst (λ (l : List DomainLimits). LoadsEach firsts t l new) p q
each_more firsts (x ∷ s) t old mid new p q = (p.0, p.1, each_more firsts s t p.0 mid new p.2 q)

-- what was read whole, and only that, is the newest, so it is what is held then
once_by : (firsts : ℕ → Limits) (t x : DomainLimits) (whole : Bool) (old new : List DomainLimits) → new ≡ cond whole (x ∷ old) old → t.domain ≡ x.domain → IsHeld firsts new t → LoadsOnce firsts t old new
once_by firsts t x true old new is same held =
    let newest : newest_of t.domain (firsts t.domain) (x ∷ old) ≡ x = cond-true (eqb t.domain x.domain) x (newest_of t.domain (firsts t.domain) old) (eq-eqb t.domain x.domain same) in
    record { one_or_none = inl (is ∙ ap (λ (y : DomainLimits). y ∷ old) (sym newest ∙ sym (ap (newest_of t.domain (firsts t.domain)) is) ∙ held)); held = held }
once_by firsts t x false old new is same held = record { one_or_none = inr is; held = held }

-- ---- one load after another

pub loaded_none : (plan : FlusherPlan) (seats : Seats) → Loaded plan [] [] seats seats
loaded_none plan seats = record { gets = record { readings = refl; triples_are = refl; layout = refl }; only = record { share = refl; est = refl; queue = refl } }

pub loaded_more : (plan : FlusherPlan) (a b : List Load) (s t : List DomainLimits) (old mid new : Seats) → Loaded plan a s old mid → Loaded plan b t mid new → Loaded plan (a ++ b) (s ++ t) old new
loaded_more plan a b s t old mid new p q =
    let older = (record_of plan.cpu old.cpu.cpus).readings in
    record {
      gets = record {
        readings = q.gets.readings ∙ ap (onto one (map reading_of b)) p.gets.readings ∙ sym (onto_append one (map reading_of a) (map reading_of b) older)
            ∙ ap (λ (l : List Reading). onto one l older) (sym (map-append reading_of a b));
        triples_are = each_more (setting old.cpu.layout).firsts s t (record_of plan.cpu old.cpu.cpus).triples (record_of plan.cpu mid.cpu.cpus).triples (record_of plan.cpu new.cpu.cpus).triples p.gets.triples_are
            (subst (λ (key : Layout). LoadsEach (setting key).firsts t (record_of plan.cpu mid.cpu.cpus).triples (record_of plan.cpu new.cpu.cpus).triples) p.gets.layout q.gets.triples_are);
        layout = q.gets.layout ∙ p.gets.layout;
      };
      only = record { share = q.only.share ∙ p.only.share; est = q.only.est ∙ p.only.est; queue = q.only.queue ∙ p.only.queue };
    }

-- ---- single loads

module _ (plan : FlusherPlan) (kit : Kit) (old new : Seats) (fits : Fits plan kit old) where
  record_made : (f : CpuRecord → CpuRecord) → Changes plan.cpu f old.cpu new.cpu → record_of plan.cpu new.cpu.cpus ≡ f (record_of plan.cpu old.cpu.cpus)
  record_made f change =
      let r = fits.held.0 in
      let has = fits.held.1 in
      record_is new.cpu.cpus plan.cpu (f r) (changed plan.cpu f old.cpu new.cpu r change has).has ∙ ap f (sym (record_is old.cpu.cpus plan.cpu r has))

  pub limits_loaded : (domain : ℕ) (t : Triple) → LoadsLimits kit plan.cpu (Cpu plan.cpu) domain t old new → Loaded plan [] (held_as domain t ∷ []) old new
  limits_loaded domain t loads =
      let set' = setting kit.throttle.layout in
      let was = record_of plan.cpu old.cpu.cpus in
      let is = record_of plan.cpu new.cpu.cpus in
      let made = record_made (made_of set' (whole_load (Cpu plan.cpu) plan.cpu domain loads.first loads.thresh loads.second)) loads.makes.becomes in
      let mid = record_after set' (kind.middle plan.cpu domain) loads.thresh (record_after set' (kind.first plan.cpu domain) loads.first was) in
      let found = found_of domain mid.loading in
      let held : IsHeld set'.firsts is.triples (held_as domain t) =
      subst (λ (r : CpuRecord). IsHeld set'.firsts r.triples (held_as domain t)) (sym (record_is new.cpu.cpus plan.cpu loads.held.0 loads.held.1)) loads.held.2 in
      record {
        gets = record {
          readings = ap (λ (r : CpuRecord). r.readings) made;
          triples_are = subst (λ (key : Layout). LoadsEach (setting key).firsts (held_as domain t ∷ []) was.triples is.triples) (sym fits.seats_are.cpu.layout) (
            is.triples,
            once_by set'.firsts (held_as domain t) (read_triple set' domain found loads.second) (is_whole set' found loads.second) was.triples is.triples (ap (λ (r : CpuRecord). r.triples) made) refl held,
            refl,
          );
          layout = loads.makes.becomes.layout;
        };
        only = loads.makes.only;
      }

  pub count_loaded : (x : Counter) (c : Count) → LoadsCount kit (Cpu plan.cpu) x c old new → Loaded plan (record { counter = x; count = c } ∷ []) [] old new
  count_loaded x c loads =
      let made = record_made (record_after (setting kit.throttle.layout) (count (Cpu plan.cpu) x) loads.found) loads.makes.changes in
      subst (λ (m : Count). Loaded plan (record { counter = x; count = m } ∷ []) [] old new) (sym loads.is_found) (record {
        gets = record { readings = ap (λ (r : CpuRecord). r.readings) made; triples_are = ap (λ (r : CpuRecord). r.triples) made; layout = loads.makes.changes.layout };
        only = loads.only;
      })

-- ---- domains

any_last : (loads : List DomainLoad) (load : DomainLoad) → AnyOver (loads ++ load ∷ []) ↔ (AnyOver loads ⊎ IsOver load)
any_last [] load = (λ any. ⊎_elim (λ is. inr is) (λ none. absurd none) any, λ any. ⊎_elim (λ none. absurd none) (λ is. inl is) any)
any_last (first ∷ loads) load =
    let rest = any_last loads load in (
      λ any. ⊎_elim (λ is. inl (inl is)) (λ more. ⊎_elim (λ is. inl (inr is)) (λ is. inr is) (rest.0 more)) any,
      λ any. ⊎_elim (λ some. ⊎_elim (λ is. inl is) (λ more. inr (rest.1 (inl more))) some) (λ is. inr (rest.1 (inr is))) any,
    )

from_last : (domain : ℕ) (loads : List DomainLoad) (load : DomainLoad) → AreFrom domain loads → load.domain ≡ length loads + domain → AreFrom domain (loads ++ load ∷ [])
from_last domain [] load from is = (omega arith, tt)
from_last domain (first ∷ loads) load from is = (from.0, from_last (domain + 1) loads load from.1 (omega arith))

pub others_none : (plan : FlusherPlan) (global : Read) (over : Bool) (seats : Seats) → IsTrue over ↔ IsOverBackground global.dirty global.limits → ReadOthers plan 1 global over seats seats
others_none plan global over seats is = record {
  others = [];
  in_order = tt;
  each = refl;
  loaded = loaded_none plan seats;
  over_is = (λ sure. inl (is.0 sure), λ some. ⊎_elim (λ sure. is.1 sure) (λ none. absurd none) some);
}

pub others_more : (plan : FlusherPlan) (domain : ℕ) (global read : Read) (over now_over : Bool) (old mid new : Seats) → ReadOthers plan domain global over old mid → ReadDomain plan domain read mid new
    → IsTrue now_over ↔ (IsTrue over ⊎ IsOverBackground read.dirty read.limits) → ReadOthers plan (domain + 1) global now_over old new
others_more plan domain global read over now_over old mid new others reads so =
    let load = reads.load in
    let either : IsTrue now_over ↔ (IsTrue over ⊎ IsOver load) = subst (λ (r : Read). IsTrue now_over ↔ (IsTrue over ⊎ IsOverBackground r.dirty r.limits)) reads.read_is so in
    let last = any_last others.others load in
    let many = others.each in
    let long = length-append others.others (load ∷ []) in
    record {
      others = others.others ++ load ∷ [];
      in_order = from_last 1 others.others load others.in_order (let same = reads.domain_is in omega arith);
      each = omega arith;
      loaded = subst (λ (z : List Load × List DomainLimits). Loaded plan z.0 z.1 old new) (λ i. (sym (map-append load_of others.others (load ∷ [])) i, sym (map-append triple_of others.others (load ∷ [])) i))
          (loaded_more plan (map load_of others.others) (load_of load ∷ []) (map triple_of others.others) (triple_of load ∷ []) old mid new others.loaded reads.loaded);
      over_is = (
        λ sure. ⊎_elim (λ before. ⊎_elim (λ global_is. inl global_is) (λ any. inr (last.1 (inl any))) (others.over_is.0 before)) (λ now. inr (last.1 (inr now))) (either.0 sure),
        λ some. ⊎_elim (λ global_is. either.1 (inl (others.over_is.1 (inl global_is)))) (λ any. ⊎_elim (λ before. either.1 (inl (others.over_is.1 (inr before)))) (λ now. either.1 (inr now)) (last.0 any)) some,
      );
    }

tests_all : (plan : FlusherPlan) (global : Read) (test : Test) (old mid new : Seats) → test.global ≡ global → ReadDomain plan 0 global old mid → ReadOthers plan plan.domains global test.over mid new → Tested plan test old new
tests_all plan global test old mid new same reads others =
    let load = reads.load in
    let many = others.each in
    record {
      global = load;
      others = others.others;
      in_order = (reads.domain_is, others.in_order);
      each = omega arith;
      loaded = loaded_more plan (load_of load ∷ []) (map load_of others.others) (triple_of load ∷ []) (map triple_of others.others) old mid new reads.loaded others.loaded;
      global_is = same ∙ reads.read_is;
      over_is = subst (λ (r : Read). IsTrue test.over ↔ (IsOverBackground r.dirty r.limits ⊎ AnyOver others.others)) reads.read_is others.over_is;
    }

pub tests_some : (plan : FlusherPlan) (global : Read) (answer : Option Test) (old mid new : Seats) → ReadDomain plan 0 global old mid → IfSome answer (λ (test : Test). test.global ≡ global)
    → IfSome answer (λ (test : Test). ReadOthers plan plan.domains global test.over mid new) → IfSome answer (λ (test : Test). Tested plan test old new)
tests_some plan global None old mid new reads same others = tt
tests_some plan global (Some test) old mid new reads same others = tests_all plan global test old mid new same reads others
