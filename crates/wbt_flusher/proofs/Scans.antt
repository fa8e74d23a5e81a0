-- Where a scan stands at its begin, and the places of inodes.
use Rattle.std.proofs.Common.{◌≡◌, ℕ, ◌<◌, ◌≤◌, true, false, List, [], All, length, get_or, set, sym, ap, ◌∙◌, subst, arith, length-set, get_or-set_same, get_or-set_other}
use Rattle.std.proofs.lemmas.Bool.{cond_both, cond-true, cond-false}
use mathlib.Core.Logic.{dite}
use native.Mathlib.Decide.{ℕ_discrete}
use Rattle.wbt_flusher.proofs.Common.{times_in, IsAhead, same_default, Scan, Seats, phase_by, pages_by, landed_in, OwesRescan, OwesMark, IsInode, IsPlan, inode_at, end_of, AreOf, AreProper, ArePlaces, HasLists, IsScan, KeepsPlace, HasWheel, pairs_of}
use Rattle.wbt_journal.specs.Flights as flights
use Rattle.wbt_flusher.specs.declared.work.Phase.{Phase}
use Rattle.wbt_flusher.specs.declared.work.Phase.TheVariants.{Scanning}
use Rattle.wbt_flusher.specs.declared.work.FlusherWork.{FlusherWork}
use Rattle.wbt_flusher.proofs.Acting.{Kept}
use Rattle.wbt_flusher.proofs.Handing.{owes_same}
use Rattle.wbt_flusher.proofs.Marking.{IsAtBegin}
use Rattle.wbt_flusher.specs.Turns.{places_after, start_of}
use Rattle.wbt_flusher.specs.declared.plan.FlusherPlan.{FlusherPlan}
use Rattle.wbt_rules.specs.Flusher.{IsWithinChunk}
use Rattle.wbt_rules.specs.Places.{place_after}
use Rattle.wbt_rules.proofs.Places.{place_below}
use Rattle.wbt_flusher.specs.declared.tally.Tallies.{Tallies}

none_of : (P : ℕ → Type 0) → All P []
none_of P n d less = absurd (omega arith)

module _ (plan : FlusherPlan) (batch : List ℕ) (after : Scan) where
  pub begins : IsInode plan after.inode → batch ≡ [] → IsAtBegin plan after → IsWithinChunk plan.shares.chunk after.quota → IsScan plan batch after × (after.passed < after.pages)
  begins inode none begun within =
      let passed = begun.none in
      let start = begun.start in
      let count = ap (λ (l : List ℕ). length l) none in (
        record {
          inode = inode;
          first_is = begun.first_is;
          pages_are = begun.pages_are;
          start = begun.start;
          to = omega arith;
          pages = subst (λ (l : List ℕ). All (λ page. page < plan.pages) l) (sym none) (none_of (λ page. page < plan.pages));
          own = subst (λ (l : List ℕ). AreOf plan after.inode l) (sym none) (none_of (λ page. ((inode_at plan after.inode).first ≤ page) × (page < end_of plan after.inode)));
          few = omega arith;
          quota = omega arith;
          chunk = within;
        },
        omega arith,
      )

-- ---- its place

-- where the device is cyclic the place of the inode is the one to which its scan has come
pub place_set : (plan : FlusherPlan) (scan : Scan) (was is : List ℕ) (place : ℕ) → plan.shares.cyclic ≡ true → place ≡ place_after scan.pages scan.start scan.passed → is ≡ set was scan.inode place → is ≡ places_after plan scan was
place_set plan scan was is place cyclic at set_is =
    set_is ∙ ap (λ (n : ℕ). set was scan.inode n) at ∙ sym (cond-true plan.shares.cyclic (set was scan.inode (place_after scan.pages scan.start scan.passed)) was cyclic)

-- else it stays
pub place_left : (plan : FlusherPlan) (scan : Scan) (was : List ℕ) → plan.shares.cyclic ≡ false → was ≡ places_after plan scan was
place_left plan scan was cyclic = sym (cond-false plan.shares.cyclic (set was scan.inode (place_after scan.pages scan.start scan.passed)) was cyclic)

-- each place is one of its inode's pages then
pub places_kept : (plan : FlusherPlan) (batch : List ℕ) (scan : Scan) (was : List ℕ) → IsScan plan batch scan → ArePlaces plan was → ArePlaces plan (places_after plan scan was)
places_kept plan batch scan was stands are =
    let place = place_after scan.pages scan.start scan.passed in
    cond_both plan.shares.cyclic (set was scan.inode place) was (ArePlaces plan)
    (λ cyclic. record {
      many = length-set was scan.inode place ∙ are.many;
      below = λ inode there. dite (ℕ_discrete inode scan.inode)
          (λ same. subst (λ (i : ℕ). get_or (set was scan.inode place) i 0 < (inode_at plan i).pages) (sym same)
          (let at = get_or-set_same was scan.inode place 0 (let many = are.many in let its = stands.inode.there in omega arith) in
          let low = place_below scan.pages scan.start scan.passed stands.start in let pages = stands.pages_are in omega arith))
          (λ other. let at = get_or-set_other was scan.inode inode place 0 other in let low = are.below inode there in omega arith);
    })
    (λ straight. are)

pub lists_placed : (plan : FlusherPlan) (scan : Scan) (was is : FlusherWork) → IsScan plan was.batch.items scan → HasLists plan was → KeepsPlace plan scan was is → HasLists plan is
lists_placed plan scan was is stands lists keeps = record {
  proper = subst (λ (l : List Tallies). All AreProper l) (sym (λ i. (keeps.tallies i).items)) lists.proper;
  tallies = (λ i. length (keeps.tallies i).items) ∙ lists.tallies;
  waiting = (λ i. length (keeps.waiting i).items) ∙ lists.waiting;
  none_wait = λ none inode. (λ i. get_or (keeps.waiting i).items inode false) ∙ lists.none_wait (sym keeps.some_wait ∙ none) inode;
  wheel = subst (HasWheel plan) (sym keeps.wheel) lists.wheel;
  places = subst (ArePlaces plan) (sym keeps.places) (places_kept plan was.batch.items scan was.places.items stands lists.places);
}

-- at the begin it is that of the inode where the device is cyclic, and else 0
pub start_cyclic : (plan : FlusherPlan) (work : FlusherWork) (inode place : ℕ) → plan.shares.cyclic ≡ true → place ≡ get_or work.places.items inode place → inode < length work.places.items → place ≡ start_of plan work inode
start_cyclic plan work inode place cyclic at there =
    at ∙ same_default work.places.items inode place 0 there ∙ sym (cond-true plan.shares.cyclic (get_or work.places.items inode 0) 0 cyclic)

pub start_straight : (plan : FlusherPlan) (work : FlusherWork) (inode : ℕ) → plan.shares.cyclic ≡ false → 0 ≡ start_of plan work inode
start_straight plan work inode cyclic = sym (cond-false plan.shares.cyclic (get_or work.places.items inode 0) 0 cyclic)

-- it is one of the inode's pages
pub start_below : (plan : FlusherPlan) (work : FlusherWork) (inode : ℕ) → IsPlan plan → HasLists plan work → inode < length plan.inodes → start_of plan work inode < (inode_at plan inode).pages
start_below plan work inode is lists there = cond_both plan.shares.cyclic (get_or work.places.items inode 0) 0 (λ (n : ℕ). n < (inode_at plan inode).pages)
    (λ cyclic. lists.places.below inode there) (λ straight. let some = is.some_page inode there in omega arith)

-- ---- its quota

-- a scan got another quota
pub requota : (plan : FlusherPlan) (seats : Seats) (was is : FlusherWork) (a b : Scan) → was.phase ≡ Scanning a → is.phase ≡ Scanning b → b ≡ record a { quota = b.quota }
    → is.batch.items ≡ was.batch.items → is.faults ≡ was.faults → is.tallies.items ≡ was.tallies.items → is.wheel ≡ was.wheel → Kept plan seats was is
requota plan seats was is a b was_at is_at same batch faults tallies wheel =
    let less = owes_same plan was is tallies (λ k. ap (λ (p : Phase). landed_in plan p k) is_at ∙ sym (ap (λ (p : Phase). landed_in plan p k) was_at)) in
    record {
      phase = ap (phase_by is.batch.items) is_at ∙ ap flights.scanning batch ∙ sym (ap (phase_by was.batch.items) was_at);
      faults = faults;
      waits = ap pairs_of wheel;
      held = λ p. ap (times_in p) (ap (pages_by is.batch.items) is_at ∙ batch ∙ sym (ap (pages_by was.batch.items) was_at));
      rescans = λ p owes own. subst (λ (f : Phase). OwesRescan plan f p) (sym is_at)
          (subst (λ (s : Scan). IsAhead s p) (sym same) (subst (λ (f : Phase). OwesRescan plan f p) was_at own));
      marks = λ i owes own. subst (λ (f : Phase). OwesMark f i) (sym is_at)
          (subst (λ (s : Scan). OwesMark (Scanning s) i) (sym same) (subst (λ (f : Phase). OwesMark f i) was_at own));
      owing_is = less.domains;
      total_is = less.totals;
    }
