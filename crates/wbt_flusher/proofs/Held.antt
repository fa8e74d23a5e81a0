-- What is kept of a context, where its fraction is read and what is owed is added.
use Rattle.std.proofs.Common.{◌≡◌, ℕ, zero, suc, ◌+◌, ◌<◌, Bool, true, false, cond, eqb, List, ◌∷◌, length, get_or, set, Option, sym, refl, ap, ◌∙◌, subst, arith, get_or-set_same, set-set}
use Rattle.std.proofs.lemmas.List.{set-get_or}
use Rattle.wbt_flusher.proofs.Common.{CpuJournal, Kit, Seats, MeasuresBefore, Sight, sight, first_tallies, tallies_of, tally_in, with_tally, PutsBefore, owing_more}
use Rattle.wbt_kit.proofs.Common.{Fraction, HasPut}
use Rattle.wbt_fraction.specs.Several as share
use Rattle.wbt_fraction.specs.declared.total.note.TotalNote.TheVariants.{Wrote}
use Rattle.wbt_queue.specs.Passes as queue
use Rattle.wbt_run_steps.specs.Inodes.{PutsWhere, was_full, was_put}
use Rattle.wbt_flusher.specs.Reads.{AddsNumber, AddsShares, Measures, tallies_at}
use Rattle.wbt_flusher.specs.Took.{CountsIn}
use Rattle.wbt_flusher.specs.Turns.{KeepsRest, OnlyShare, PutsInode, PutsNext, waits_not}
use Rattle.wbt_flusher.specs.declared.background.Read.{Read}
use Rattle.wbt_flusher.specs.declared.plan.FlusherPlan.{FlusherPlan}
use Rattle.wbt_flusher.specs.declared.tally.Tallies.{Tallies}
use Rattle.wbt_flusher.specs.declared.tally.Tally.{Tally}
use Rattle.wbt_flusher.specs.declared.work.Phase.TheVariants.{Idle}
use Rattle.wbt_flusher.specs.declared.work.FlusherWork.{FlusherWork}
use Rattle.wbt_flusher.proofs.Tallying.{own_tally}

-- ---- one context's tallies

own_by : (b : Bool) (t : Tallies) → cond b (record t { global = cond b t.global t.group }) (record t { group = cond b t.global t.group }) ≡ t
own_by true t = refl
own_by false t = refl

twice_by : (b : Bool) (x y : Tally) (t : Tallies)
    → cond b (record (cond b (record t { global = x }) (record t { group = x })) { global = y }) (record (cond b (record t { global = x }) (record t { group = x })) { group = y })
    ≡ cond b (record t { global = y }) (record t { group = y })
twice_by true x y t = refl
twice_by false x y t = refl

-- what is owed stays
pub same_owed : (domain context : ℕ) (items : List Tallies) → items ≡ set items context (with_tally domain (tally_in domain (tallies_at items context)) (tallies_at items context))
same_owed domain context items = sym (ap (set items context) (own_by (eqb domain 0) (tallies_at items context)) ∙ set-get_or items context first_tallies)

-- after a fraction was read, and is held
module _ (domain context : ℕ) (was mid : List Tallies) (fraction : Fraction) (there : context < length was)
    (holds : mid ≡ set was context (with_tally domain (record (tally_in domain (tallies_at was context)) { held = fraction }) (tallies_at was context))) where
  its : Tally
  its = record { held = fraction; owed = (tally_in domain (tallies_at was context)).owed }

  mid_tallies : tallies_at mid context ≡ with_tally domain its (tallies_at was context)
  unfolding its
  mid_tallies = ap (λ (l : List Tallies). get_or l context first_tallies) holds ∙ get_or-set_same was context (with_tally domain its (tallies_at was context)) first_tallies there

  mid_tally : tally_in domain (tallies_at mid context) ≡ its
  mid_tally = ap (tally_in domain) mid_tallies ∙ own_tally domain its (tallies_at was context)

  -- what is left then is what is left in all
  pub holds_left : (left : ℕ) (is : List Tallies) → is ≡ set mid context (with_tally domain (record (tally_in domain (tallies_at mid context)) { owed = left }) (tallies_at mid context))
      → is ≡ set was context (with_tally domain (record { held = fraction; owed = left }) (tallies_at was context))
  unfolding its
  holds_left left is becomes =
      let last : Tally = record { held = fraction; owed = left } in
      let t = tallies_at was context in
      becomes ∙ (λ i. set (holds i) context (with_tally domain (record (mid_tally i) { owed = left }) (mid_tallies i)))
      ∙ ap (set (set was context (with_tally domain its t)) context) (twice_by (eqb domain 0) its last t)
      ∙ set-set was context (with_tally domain its t) (with_tally domain last t)

  -- the number that was owed is added
  pub adds_owed : (left : ℕ) (old new : share.Seats) (before behind : CpuJournal) → AddsNumber domain context (tally_in domain (tallies_at mid context)).owed left old new before behind
      → AddsNumber domain context (tally_in domain (tallies_at was context)).owed left old new before behind
  unfolding its
  adds_owed left old new before behind adds = subst (λ (x : Tally). AddsNumber domain context x.owed left old new before behind) mid_tally adds

-- ---- a batch is counted in

pub counts_in : (plan : FlusherPlan) (k context pages : ℕ) → k ≡ context → (was owes counted is : FlusherWork) (old mid new : Seats) (before behind : CpuJournal) (written : Option ℕ) → k < length was.tallies.items
    → owes.tallies.items ≡ set was.tallies.items context (owing_more pages (tallies_of was context))
    → ((word : ℕ) × (mid.share.totals.notes ≡ Wrote k word (tallies_of owes k).written ∷ old.share.totals.notes)) → mid.share.domains ≡ old.share.domains
    → counted.tallies.items ≡ set owes.tallies.items k (record (tallies_of owes k) { written = 0 })
    → AddsShares plan k counted.tallies.items is.tallies.items mid.share new.share before behind → is.phase ≡ Idle 0 false → length is.batch.items ≡ 0 → KeepsRest was is → OnlyShare old new
    → CountsIn plan context pages (sight was old before written) (sight is new behind written)
counts_in plan k context pages same was owes counted is old mid new before behind written there owing counts domains tallies adds phase batch rest only =
    let more = owing_more pages (tallies_of was context) in
    let in_list : context < length was.tallies.items = subst (λ (n : ℕ). n < length was.tallies.items) same there in
    let at : tallies_of owes k ≡ more = ap (tallies_of owes) same ∙ ap (λ (l : List Tallies). get_or l context first_tallies) owing ∙ get_or-set_same was.tallies.items context more first_tallies in_list in
    let items : counted.tallies.items ≡ set was.tallies.items context (record more { written = 0 }) =
    tallies ∙ (λ i. set (owing i) (same i) (record (at i) { written = 0 })) ∙ set-set was.tallies.items context more (record more { written = 0 }) in
    record {
      counted = mid.share;
      word = counts.0;
      domains = domains;
      totals = counts.1 ∙ (λ i. Wrote (same i) counts.0 (at i).written ∷ old.share.totals.notes);
      adds = subst (λ (z : ℕ × List Tallies). AddsShares plan z.0 z.1 is.tallies.items mid.share new.share before behind) (λ i. (same i, items i)) adds;
      phase = phase;
      batch = batch;
      rest = rest;
      only = only;
    }

-- ---- an inode is put

-- from the same queues
pub puts_from : (plan : FlusherPlan) (kit : Kit) (inode : ℕ) (old mid new : queue.Seats) (was is : FlusherWork) → mid ≡ old → PutsInode plan kit inode mid new was is → PutsInode plan kit inode old new was is
puts_from plan kit inode old mid new was is same puts = record {
  full = puts.full;
  puts = from puts.puts;
  waiting = puts.waiting;
  some_wait = puts.some_wait;
}
  where
    from : PutsWhere kit plan.device inode puts.full mid new → PutsWhere kit plan.device inode puts.full old new
    from (was_put is has) = was_put is (subst (λ (q : queue.Seats). HasPut (queue.known_of plan.device q) inode (queue.known_of plan.device new)) same has)
    from (was_full is left held) = was_full is (left ∙ same) (subst (λ (q : queue.Seats). queue.Held (queue.size_of plan.device kit.queues) (queue.known_of plan.device q)) same held)

-- where none waits nothing is put
pub puts_none : (plan : FlusherPlan) (kit : Kit) (queues : queue.Seats) (was : List Bool) → ((k : ℕ) → get_or was k false ≡ false) → (n : ℕ) → PutsBefore plan kit n queues queues was was false
puts_none plan kit queues was none zero = (refl, refl, refl)
puts_none plan kit queues was none (suc n) = (queues, was, false, puts_none plan kit queues was none n, waits_not (none n) refl refl refl)

pub puts_more : (plan : FlusherPlan) (kit : Kit) (k : ℕ) (old mid new : queue.Seats) (was between is : List Bool) (some_before some_now : Bool) → PutsBefore plan kit k old mid was between some_before
    → PutsNext plan kit k mid new between is some_before some_now → PutsBefore plan kit (k + 1) old new was is some_now
puts_more plan kit k old mid new was between is some_before some_now before next =
    let last : suc k ≡ k + 1 = omega arith in
    subst (λ (n : ℕ). PutsBefore plan kit n old new was is some_now) last (mid, between, some_before, before, next)

-- ---- contexts one after another

pub measures_more : (plan : FlusherPlan) (kit : Kit) (now : ℕ) (global : Read) (k : ℕ) (old mid new : Sight) → MeasuresBefore plan kit now global k old mid → Measures plan kit now global k mid new
    → MeasuresBefore plan kit now global (k + 1) old new
measures_more plan kit now global k old mid new before one =
    let last : suc k ≡ k + 1 = omega arith in
    subst (λ (n : ℕ). MeasuresBefore plan kit now global n old new) last (mid, before, one)
