-- What is still to be added, where what is kept of one context changes.
use Rattle.std.proofs.Common.{◌≡◌, ◌≢◌, ℕ, ◌+◌, ◌<◌, ◌≤◌, Bool, true, false, cond, eqb, List, All, length, get_or, set, sym, refl, ap, ◌∙◌, subst, arith, ⊎_elim, eq-eqb, ne_eqb, true≢false, get_or-set_same, get_or-set_other, length-set, ◌||◌, Option}
use Rattle.std.proofs.lemmas.Bool.{cond-true, cond-false}
use Rattle.std.proofs.lemmas.List.Elements.{All-set}
use Rattle.wbt_flusher.proofs.Common.{Waiting, first_tallies, is_inside, tally_in, with_tally, tallies_of, landed_in, owed_by, owing, owing_total, AreProper, ArePlaces, HasLists, OnlyTallies, HasWheel}
use Rattle.wbt_kit.proofs.Common.{total, total_change}
use mathlib.Core.Logic.{dite}
use native.Mathlib.Decide.{ℕ_discrete}
use Rattle.wbt_flusher.specs.Plans.{group_of}
use Rattle.wbt_flusher.specs.Turns.{IsPart, IsProper, OwesNoMore}
use Rattle.wbt_flusher.specs.declared.plan.FlusherPlan.{FlusherPlan}
use Rattle.wbt_flusher.specs.declared.tally.Tallies.{Tallies}
use Rattle.wbt_flusher.specs.declared.tally.Tally.{Tally}
use Rattle.wbt_flusher.specs.declared.work.Phase.{Phase}
use Rattle.wbt_flusher.specs.declared.work.FlusherWork.{FlusherWork}

-- ---- one tally

own_by : (a : Bool) (x : Tally) (t : Tallies) → cond a (cond a (record t { global = x }) (record t { group = x })).global (cond a (record t { global = x }) (record t { group = x })).group ≡ x
own_by true x t = refl
own_by false x t = refl

pub own_tally : (domain : ℕ) (x : Tally) (t : Tallies) → tally_in domain (with_tally domain x t) ≡ x
own_tally domain x t = own_by (eqb domain 0) x t

less_by : (a b : Bool) (x : Tally) (t : Tallies) → x.owed ≤ (cond b t.global t.group).owed
    → (cond a (cond b (record t { global = x }) (record t { group = x })).global (cond b (record t { global = x }) (record t { group = x })).group).owed ≤ (cond a t.global t.group).owed
less_by true true x t less = less
less_by true false x t less = omega arith
less_by false true x t less = omega arith
less_by false false x t less = less

pub less_tally : (d domain : ℕ) (x : Tally) (t : Tallies) → x.owed ≤ (tally_in domain t).owed → (tally_in d (with_tally domain x t)).owed ≤ (tally_in d t).owed
less_tally d domain x t less = less_by (eqb d 0) (eqb domain 0) x t less

written_by : (b : Bool) (x : Tally) (t : Tallies) → (cond b (record t { global = x }) (record t { group = x })).written ≡ t.written
written_by true x t = refl
written_by false x t = refl

pub same_written : (domain : ℕ) (x : Tally) (t : Tallies) → (with_tally domain x t).written ≡ t.written
same_written domain x t = written_by (eqb domain 0) x t

proper_by : (b : Bool) (x : Tally) (t : Tallies) → AreProper t → IsProper x.held → AreProper (cond b (record t { global = x }) (record t { group = x }))
proper_by true x t proper is = (is, proper.1)
proper_by false x t proper is = (proper.0, is)

pub proper_with : (domain : ℕ) (x : Tally) (t : Tallies) → AreProper t → IsProper x.held → AreProper (with_tally domain x t)
proper_with domain x t proper is = proper_by (eqb domain 0) x t proper is

in_by : (b : Bool) (t : Tallies) → AreProper t → IsProper (cond b t.global t.group).held
in_by true t proper = proper.0
in_by false t proper = proper.1

pub proper_in : (domain : ℕ) (t : Tallies) → AreProper t → IsProper (tally_in domain t).held
proper_in domain t proper = in_by (eqb domain 0) t proper

-- ---- one context's tallies

module _ (plan : FlusherPlan) (was is : FlusherWork) (context : ℕ) (t : Tallies) (lists : HasLists plan was) (there : context < length plan.contexts)
    (phase : is.phase ≡ was.phase) (tallies : is.tallies.items ≡ set was.tallies.items context t) where
  in_tallies : context < length was.tallies.items
  in_tallies = let long = lists.tallies in omega arith

  pub at_it : tallies_of is context ≡ t
  at_it = ap (λ (l : List Tallies). get_or l context first_tallies) tallies ∙ get_or-set_same was.tallies.items context t first_tallies in_tallies

  pub elsewhere : (k : ℕ) → k ≢ context → tallies_of is k ≡ tallies_of was k
  elsewhere k other = ap (λ (l : List Tallies). get_or l k first_tallies) tallies ∙ get_or-set_other was.tallies.items context k t first_tallies other

  landed_same : (k : ℕ) → landed_in plan is.phase k ≡ landed_in plan was.phase k
  landed_same k = ap (λ (p : Phase). landed_in plan p k) phase

  owed_same : (domain k : ℕ) → (tally_in domain (tallies_of is k)).owed ≡ (tally_in domain (tallies_of was k)).owed → owed_by plan domain k is ≡ owed_by plan domain k was
  owed_same domain k same = ap (λ (n : ℕ). cond (is_inside plan domain k) (n + landed_in plan is.phase k) 0) same
      ∙ ap (λ (n : ℕ). cond (is_inside plan domain k) ((tally_in domain (tallies_of was k)).owed + n) 0) (landed_same k)

  owed_elsewhere : (domain k : ℕ) → k ≢ context → owed_by plan domain k is ≡ owed_by plan domain k was
  owed_elsewhere domain k other = owed_same domain k (ap (λ (u : Tallies). (tally_in domain u).owed) (elsewhere k other))

  change : (domain : ℕ) → owing plan domain is + owed_by plan domain context was ≡ owing plan domain was + owed_by plan domain context is
  change domain = total_change (length plan.contexts) (λ k. owed_by plan domain k is) (λ k. owed_by plan domain k was) context there (λ k other. owed_elsewhere domain k other)

  owed_is : (domain : ℕ) → owed_by plan domain context is ≡ cond (is_inside plan domain context) ((tally_in domain t).owed + landed_in plan was.phase context) 0
  owed_is domain = ap (λ (u : Tallies). cond (is_inside plan domain context) ((tally_in domain u).owed + landed_in plan is.phase context) 0) at_it
      ∙ ap (λ (n : ℕ). cond (is_inside plan domain context) ((tally_in domain t).owed + n) 0) (landed_same context)

  less_inside : (b : Bool) (x y n : ℕ) → x ≤ y → cond b (x + n) 0 ≤ cond b (y + n) 0
  less_inside true x y n less = omega arith
  less_inside false x y n less = omega arith

  -- no more is owed where no more is in the domain's tally
  pub no_more : (domain : ℕ) → (tally_in domain t).owed ≤ (tally_in domain (tallies_of was context)).owed → owing plan domain is ≤ owing plan domain was
  no_more domain less =
      let c = change domain in
      let o = owed_is domain in
      let l = less_inside (is_inside plan domain context) (tally_in domain t).owed (tally_in domain (tallies_of was context)).owed (landed_in plan was.phase context) less in omega arith

  -- so many less
  pub so_many : (domain n : ℕ) → is_inside plan domain context ≡ true → (tally_in domain t).owed + n ≡ (tally_in domain (tallies_of was context)).owed → owing plan domain is + n ≡ owing plan domain was
  so_many domain n inside sum =
      let c = change domain in
      let o = owed_is domain ∙ ap (λ (b : Bool). cond b ((tally_in domain t).owed + landed_in plan was.phase context) 0) inside in
      let w : owed_by plan domain context was ≡ (tally_in domain (tallies_of was context)).owed + landed_in plan was.phase context =
      ap (λ (b : Bool). cond b ((tally_in domain (tallies_of was context)).owed + landed_in plan was.phase context) 0) inside in omega arith

  pub total_elsewhere : (k : ℕ) → k ≢ context → owing_total plan k is ≡ owing_total plan k was
  total_elsewhere k other =
      let a = ap (λ (u : Tallies). u.written) (elsewhere k other) in
      let b = landed_same k in omega arith

  pub total_here : (n : ℕ) → t.written + n ≡ (tallies_of was context).written → owing_total plan context is + n ≡ owing_total plan context was
  total_here n sum =
      let a = ap (λ (u : Tallies). u.written) at_it in
      let b = landed_same context in omega arith

  pub totals_same : t.written ≡ (tallies_of was context).written → (k : ℕ) → owing_total plan k is ≡ owing_total plan k was
  totals_same same k = dite (ℕ_discrete k context)
      (λ here. subst (λ (j : ℕ). owing_total plan j is ≡ owing_total plan j was) (sym here) (let sum = total_here 0 (omega arith) in omega arith))
      (λ other. total_elsewhere k other)

  pub lists_with : AreProper t → is.waiting.items ≡ was.waiting.items → is.some_wait ≡ was.some_wait → is.wheel ≡ was.wheel → is.places.items ≡ was.places.items → HasLists plan is
  lists_with proper waiting some wheel places = record {
    proper = subst (λ (l : List Tallies). All AreProper l) (sym tallies) (All-set AreProper was.tallies.items context t proper lists.proper);
    tallies = ap (λ (l : List Tallies). length l) tallies ∙ length-set was.tallies.items context t ∙ lists.tallies;
    waiting = ap (λ (l : List Bool). length l) waiting ∙ lists.waiting;
    none_wait = λ none inode. ap (λ (l : List Bool). get_or l inode false) waiting ∙ lists.none_wait (sym some ∙ none) inode;
    wheel = subst (λ (w : Option Waiting). HasWheel plan w) (sym wheel) lists.wheel;
    places = subst (ArePlaces plan) (sym places) lists.places;
  }

-- a domain of a context
pub inside_part : (plan : FlusherPlan) (domain context : ℕ) → IsPart plan domain context → is_inside plan domain context ≡ true
inside_part plan domain context part = ⊎_elim
    (λ none. or_left (eqb domain 0) (eqb domain (group_of plan context)) (eq-eqb domain 0 none))
    (λ own. or_right (eqb domain 0) (eqb domain (group_of plan context)) (eq-eqb domain (group_of plan context) own))
    part.inside
  where
    or_left : (a b : Bool) → a ≡ true → (a || b) ≡ true
    or_left true b is = refl
    or_left false b is = absurd (true≢false (sym is))

    or_right : (a b : Bool) → b ≡ true → (a || b) ≡ true
    or_right true b is = refl
    or_right false b is = is

-- a tally of a context that is proper, and whose number is there
pub proper_at : (plan : FlusherPlan) (work : FlusherWork) (context : ℕ) → HasLists plan work → context < length plan.contexts → AreProper (tallies_of work context)
proper_at plan work context lists there = lists.proper context first_tallies (let long = lists.tallies in omega arith)

-- what one summand is at most
pub owed_within : (plan : FlusherPlan) (work : FlusherWork) (domain context : ℕ) → IsPart plan domain context → (tally_in domain (tallies_of work context)).owed ≤ owing plan domain work
owed_within plan work domain context part =
    let inside = inside_part plan domain context part in
    let w : owed_by plan domain context work ≡ (tally_in domain (tallies_of work context)).owed + landed_in plan work.phase context =
    ap (λ (b : Bool). cond b ((tally_in domain (tallies_of work context)).owed + landed_in plan work.phase context) 0) inside in
    let one = summand (length plan.contexts) (λ k. owed_by plan domain k work) context part.there in omega arith
  where
    summand : (n : ℕ) (f : ℕ → ℕ) (i : ℕ) → i < n → f i ≤ total n f
    summand n f i less = let c = total_change n f (λ k. cond (eqb k i) 0 (f k)) i less (λ k other. sym (other_is f i k other)) in let z = here_is f i in omega arith
      where
        other_is : (f : ℕ → ℕ) (i k : ℕ) → k ≢ i → cond (eqb k i) 0 (f k) ≡ f k
        other_is f i k other = cond-false (eqb k i) 0 (f k) (ne_eqb k i other)

        here_is : (f : ℕ → ℕ) (i : ℕ) → cond (eqb i i) 0 (f i) ≡ 0
        here_is f i = cond-true (eqb i i) 0 (f i) (eq-eqb i i refl)

-- what was owed to a domain was dropped
pub drops : (plan : FlusherPlan) (was is : FlusherWork) (context domain : ℕ) → HasLists plan was → context < length plan.contexts → OnlyTallies was is
    → is.tallies.items ≡ set was.tallies.items context (with_tally domain (record (tally_in domain (tallies_of was context)) { owed = 0 }) (tallies_of was context)) → OwesNoMore plan was is
drops plan was is context domain lists there only dropped =
    let t = tallies_of was context in
    let x : Tally = record (tally_in domain t) { owed = 0 } in
    record {
      domains = λ d less. no_more plan was is context (with_tally domain x t) lists there only.phase dropped d (less_tally d domain x t (omega arith));
      totals = λ k less. let same = totals_same plan was is context (with_tally domain x t) lists there only.phase dropped (same_written domain x t) k in omega arith;
    }
