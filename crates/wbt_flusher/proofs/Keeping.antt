-- Calls that leave records, shares and estimates, and change what the flusher keeps and what its pass knows of queues.
use Rattle.std.proofs.Common.{zero, suc, drop, ◌≡◌, ℕ, ◌+◌, ◌<◌, ◌≤◌, Bool, false, List, [], ◌∷◌, All, length, get_or, inl, inr, ⊎_elim, sym, refl, ap, ◌∙◌, subst, arith, length-set, set, Option}
use Rattle.wbt_flusher.proofs.Common.{times_in, CpuRecord, known_of, Has, Scan, Waiting, Flew, FliesInTurn, flusher_after, by_nothing, logged_nothing, walked_none, Kit, Seats, OnlyQueue, IsApart, record_of, OnlyDevice, GoesQuiet, GoesKept, Fits, KeepsDebts, sight, record_in, flusher_in, phase_by, pages_by, all_completions, completions, landed_in, tallies_of, tally_in, with_tally, OwesRescan, OwesMark, list_by, AreProper, ArePlaces, HasLists, KeepsPlace, OnlyTallies, OnlyWaiting, HasWheel, pairs_of}
use Rattle.wbt_kit.proofs.Common.{AreSeatsOf}
use Rattle.wbt_fraction.specs.Several as share
use Rattle.wbt_published.specs.Passes as est
use Rattle.wbt_queue.specs.Passes as queue
use Rattle.wbt_table.specs.Seat as table
use Rattle.wbt_journal.specs.Flights as flights
use Rattle.wbt_flusher.specs.Turns.{IsBare}
use Rattle.wbt_flusher.specs.declared.plan.FlusherPlan.{FlusherPlan}
use Rattle.wbt_flusher.specs.declared.tally.Tallies.{Tallies}
use Rattle.wbt_flusher.specs.declared.tally.Tally.{Tally}
use Rattle.wbt_flusher.proofs.Tallying.{no_more, less_tally, totals_same, same_written}
use Rattle.wbt_flusher.specs.declared.work.Phase.{Phase}
use Rattle.wbt_flusher.specs.declared.work.Phase.TheVariants.{Idle, Scanning, Flying, Returning, Failed}
use Rattle.wbt_flusher.specs.declared.work.FlusherWork.{FlusherWork}
use Rattle.wbt_flusher.proofs.Acting.{OnRecord, Kept, did_act, rescan_or, mark_or, same_flusher}
use Rattle.wbt_flusher.proofs.Going.{goes_kept, keeps_same, kept_same}
use Rattle.wbt_flusher.proofs.Noting.{grows_none}
use Rattle.wbt_flusher.proofs.Handing.{owes_same}
use Rattle.wbt_flusher.proofs.Waiting.{list_kept}

-- seats fit where their records stay, and the parts that changed are still those of the kit
pub record StillFits (kit : Kit) (old new : Seats) : Type 0 where
  pub cpu : new.cpu ≡ old.cpu
  pub share : share.IsSeatOf kit.shares new.share
  pub est : est.IsPassOf kit.published new.est
  pub each_context : length new.est.known ≡ length old.est.known
  pub publishes : (context : ℕ) → (known_of context new.est).publishes ≡ (known_of context old.est).publishes
  pub queue : queue.IsPassOf kit.queues new.queue
  pub each_device : length new.queue.known ≡ length old.queue.known

pub still_fits : (plan : FlusherPlan) (kit : Kit) (old new : Seats) → Fits plan kit old → StillFits kit old new → Fits plan kit new
still_fits plan kit old new fits still = record {
  seats_are = record {
    cpu = subst (λ (c : table.Seated). table.IsAt kit.throttle c) (sym still.cpu) fits.seats_are.cpu;
    each_cpu = ap (λ (c : table.Seated). length c.cpus) still.cpu ∙ fits.seats_are.each_cpu;
    share = still.share;
    est = still.est;
    each_context = still.each_context ∙ fits.seats_are.each_context;
    queue = still.queue;
    each_device = still.each_device ∙ fits.seats_are.each_device;
  };
  held = (fits.held.0, subst (λ (c : table.Seated). Has c.cpus plan.cpu fits.held.0) (sym still.cpu) fits.held.1);
  publishes = λ context measured. still.publishes context ∙ fits.publishes context measured;
}

-- and where only queues changed
pub fits_queue : (plan : FlusherPlan) (kit : Kit) (old new : Seats) → Fits plan kit old → AreSeatsOf kit new → OnlyQueue old new → Fits plan kit new
fits_queue plan kit old new fits seats only = record {
  seats_are = seats;
  held = (fits.held.0, subst (λ (c : table.Seated). Has c.cpus plan.cpu fits.held.0) (sym only.cpu) fits.held.1);
  publishes = λ context measured. ap (λ (s : est.Seats). (known_of context s).publishes) only.est ∙ fits.publishes context measured;
}

pub debts_same : (plan : FlusherPlan) (old new : Seats) → new.cpu ≡ old.cpu → KeepsDebts plan old new
debts_same plan old new cpu = ap (λ (c : table.Seated). (record_of plan.cpu c.cpus).debts) cpu

module _ (plan : FlusherPlan) (kit : Kit) (old new : Seats) (was is : FlusherWork) (cpu : new.cpu ≡ old.cpu) (share_is : new.share ≡ old.share) (est_is : new.est ≡ old.est)
    (device : OnlyDevice plan.device old.queue new.queue) (fits : Fits plan kit new) (kept : Kept plan old was is) where
  pub goes_apart : GoesKept plan kit old new was is
  goes_apart told log written =
      let s = sight was old log written in
      let t = sight is new log written in
      let r = record_in plan s in
      let same : record_in plan t ≡ r = ap (λ (c : table.Seated). record_of plan.cpu c.cpus) cpu in
      record {
        did = did_act plan kit told s t (record {
          added = [];
          of_flusher = tt;
          plain = tt;
          adds_none = λ domain context. refl;
          logged = logged_nothing log;
          own = λ trace work. tt;
          moments = tt;
          pages = grows_none written;
          flew = subst (λ (p : flights.ToldFlusher). Flew plan.flusher (flusher_in s) [] p) (sym (same_flusher was is kept.phase kept.faults)) (walked_none (FliesInTurn plan.flusher) (flusher_after plan.flusher) (flusher_in s));
          waited = λ trace work. list_kept trace plan.flusher [] (list_by was) (list_by is) tt kept.waits;
          apart = subst (λ (c : table.Seated). IsApart plan.cpu old.cpu c) (sym cpu) (record { others = λ c r other has. has; no_more = λ c r other has. has; timer = refl; layout = refl });
          share = share_is;
          est = est_is;
          on_record = subst (λ (q : CpuRecord). OnRecord plan [] s t r q) (sym same) (record {
            grew = by_nothing r;
            writers = refl;
            held = λ page. let same = kept.held page in omega arith;
            rescans = λ page owes. ⊎_elim (λ own. inl (kept.rescans page owes own)) (λ other. inr (owes, other)) (rescan_or plan was.phase page);
            marks = λ inode owes. ⊎_elim (λ own. inl (kept.marks inode owes own)) (λ other. inr (owes, other)) (mark_or was.phase inode);
            completed = ap (λ (c : table.Seated). all_completions c.cpus + completions r) cpu;
            owing_is = λ domain there. let less = kept.owing_is domain there in omega arith;
            total_is = λ context there. let less = kept.total_is context there in omega arith;
          });
        });
        fits = fits;
        cpus = keeps_same old.cpu.cpus new.cpu.cpus (ap (λ (c : table.Seated). c.cpus) cpu);
        queue = device;
      }

-- where phase, batch, faults and tallies stay
pub kept_by : (plan : FlusherPlan) (seats : Seats) (was is : FlusherWork) → is.phase ≡ was.phase → is.batch.items ≡ was.batch.items → is.faults ≡ was.faults → is.tallies.items ≡ was.tallies.items → is.wheel ≡ was.wheel → Kept plan seats was is
kept_by plan seats was is phase batch faults tallies wheel =
    let pages : pages_by is.batch.items is.phase ≡ pages_by was.batch.items was.phase = ap (λ (z : List ℕ × Phase). pages_by z.0 z.1) (λ i. (batch i, phase i)) in
    let less = owes_same plan was is tallies (λ k. ap (λ (p : Phase). landed_in plan p k) phase) in
    record {
      phase = ap (λ (z : List ℕ × Phase). phase_by z.0 z.1) (λ i. (batch i, phase i));
      faults = faults;
      waits = ap pairs_of wheel;
      held = λ page. ap (times_in page) pages;
      rescans = λ page owes own. subst (λ (p : Phase). OwesRescan plan p page) (sym phase) own;
      marks = λ inode owes own. subst (λ (p : Phase). OwesMark p inode) (sym phase) own;
      owing_is = less.domains;
      total_is = less.totals;
    }

-- where only a place is kept
pub place_goes : (plan : FlusherPlan) (kit : Kit) (scan : Scan) (seats : Seats) (was is : FlusherWork) → Fits plan kit seats → KeepsPlace plan scan was is → GoesKept plan kit seats seats was is
place_goes plan kit scan seats was is fits keeps = goes_kept plan kit seats was is fits
    (kept_by plan seats was is keeps.phase (λ i. (keeps.batch i).items) keeps.faults (λ i. (keeps.tallies i).items) keeps.wheel)

-- where the flusher without a batch becomes idle
pub kept_idle : (plan : FlusherPlan) (seats : Seats) (was is : FlusherWork) (until : ℕ) (kept : Bool) → IsBare plan was seats → is.phase ≡ Idle until kept → is.batch.items ≡ was.batch.items → is.faults ≡ was.faults → is.tallies.items ≡ was.tallies.items → is.wheel ≡ was.wheel → Kept plan seats was is
kept_idle plan seats was is until kept bare is_at batch faults tallies wheel =
    let none : is.batch.items ≡ [] = batch ∙ bare.batch in
    let less = owes_same plan was is tallies (λ k. ap (λ (p : Phase). landed_in plan p k) is_at ∙ sym (bare.lands_none k)) in
    record {
      phase = ap (phase_by is.batch.items) is_at ∙ sym (ap (λ (l : List ℕ). phase_by l was.phase) bare.batch ∙ bare.flies_none);
      faults = faults;
      waits = ap pairs_of wheel;
      held = λ page. ap (times_in page) (ap (pages_by is.batch.items) is_at ∙ sym (ap (λ (l : List ℕ). pages_by l was.phase) bare.batch ∙ no_pages was.phase bare.flies_none));
      rescans = λ page owes own. absurd (bare.rescans page owes own);
      marks = λ inode owes own. absurd (bare.marks inode owes own);
      owing_is = less.domains;
      total_is = less.totals;
    }
  where
    drop_none : (n : ℕ) → drop n (let l : List ℕ = [] in l) ≡ []
    drop_none zero = refl
    drop_none (suc n) = refl

    no_pages : (p : Phase) → phase_by [] p ≡ flights.scanning [] → pages_by [] p ≡ []
    no_pages (Idle u k) e = refl
    no_pages (Scanning s) e = refl
    no_pages (Flying f) e = drop_none f.landed
    no_pages (Returning g) e = drop_none g.returned
    no_pages Failed e = refl

-- numbers that were put, or that wait
pub queue_goes : (plan : FlusherPlan) (kit : Kit) (old new : Seats) (was is : FlusherWork) → Fits plan kit new → OnlyQueue old new
    → OnlyDevice plan.device old.queue new.queue → OnlyWaiting plan was is → GoesKept plan kit old new was is
queue_goes plan kit old new was is fits queue device only = goes_apart plan kit old new was is queue.cpu queue.share queue.est device fits
    (kept_by plan old was is only.phase (λ i. (only.batch i).items) only.faults (λ i. (only.tallies i).items) only.wheel)

-- where one inode waits, or doesn't any more
pub waits_alone : (plan : FlusherPlan) (was is : FlusherWork) (inode : ℕ) (full : Bool) → is.phase ≡ was.phase → is.batch ≡ was.batch → is.faults ≡ was.faults → is.hard ≡ was.hard → is.tallies ≡ was.tallies → is.wheel ≡ was.wheel → is.places ≡ was.places
    → is.waiting.items ≡ set was.waiting.items inode full → OnlyWaiting plan was is
waits_alone plan was is inode full phase batch faults hard tallies wheel places waiting = record {
  phase = phase;
  batch = batch;
  faults = faults;
  hard = hard;
  tallies = tallies;
  wheel = wheel;
  waiting = ap (λ (l : List Bool). length l) waiting ∙ length-set was.waiting.items inode full;
  places = places;
}

-- an inode waits, or it doesn't any more
pub lists_put : (plan : FlusherPlan) (was is : FlusherWork) (inode : ℕ) (full : Bool) → HasLists plan was → is.tallies.items ≡ was.tallies.items → is.wheel ≡ was.wheel → is.places.items ≡ was.places.items → is.waiting.items ≡ set was.waiting.items inode full
    → (is.some_wait ≡ false → (was.some_wait ≡ false) × (full ≡ false)) → HasLists plan is
lists_put plan was is inode full lists tallies wheel places waiting flags = record {
  proper = subst (λ (l : List Tallies). All AreProper l) (sym tallies) lists.proper;
  tallies = ap (λ (l : List Tallies). length l) tallies ∙ lists.tallies;
  waiting = ap (λ (l : List Bool). length l) waiting ∙ length-set was.waiting.items inode full ∙ lists.waiting;
  none_wait = λ none k.
      let both = flags none in
      ap (λ (l : List Bool). get_or l k false) waiting ∙ none_set was.waiting.items inode k full both.1 (lists.none_wait both.0);
  wheel = subst (λ (w : Option Waiting). HasWheel plan w) (sym wheel) lists.wheel;
  places = subst (ArePlaces plan) (sym places) lists.places;
}
  where
    none_set : (l : List Bool) (i k : ℕ) (b : Bool) → b ≡ false → ((j : ℕ) → get_or l j false ≡ false) → get_or (set l i b) k false ≡ false
    none_set [] i k b is none = refl
    none_set (x ∷ xs) zero zero b is none = is
    none_set (x ∷ xs) zero (suc k) b is none = none (suc k)
    none_set (x ∷ xs) (suc i) zero b is none = none 0
    none_set (x ∷ xs) (suc i) (suc k) b is none = none_set xs i k b is (λ j. none (suc j))

-- a tally of a context changed, and owes no more
pub kept_tally : (plan : FlusherPlan) (seats : Seats) (was is : FlusherWork) (context domain : ℕ) (x : Tally) → HasLists plan was → context < length plan.contexts → OnlyTallies was is
    → is.tallies.items ≡ set was.tallies.items context (with_tally domain x (tallies_of was context)) → x.owed ≤ (tally_in domain (tallies_of was context)).owed → Kept plan seats was is
kept_tally plan seats was is context domain x lists there only set_is less =
    let t = tallies_of was context in
    let pages : pages_by is.batch.items is.phase ≡ pages_by was.batch.items was.phase = λ i. pages_by (only.batch i).items (only.phase i) in
    record {
      phase = λ i. phase_by (only.batch i).items (only.phase i);
      faults = only.faults;
      waits = ap pairs_of only.wheel;
      held = λ page. ap (times_in page) pages;
      rescans = λ page owes own. subst (λ (p : Phase). OwesRescan plan p page) (sym only.phase) own;
      marks = λ inode owes own. subst (λ (p : Phase). OwesMark p inode) (sym only.phase) own;
      owing_is = λ d in_domains. no_more plan was is context (with_tally domain x t) lists there only.phase set_is d (less_tally d domain x t less);
      total_is = λ k in_contexts. let same = totals_same plan was is context (with_tally domain x t) lists there only.phase set_is (same_written domain x t) k in omega arith;
    }

pub queue_quiet : (plan : FlusherPlan) (kit : Kit) (old new : Seats) → Fits plan kit new → OnlyQueue old new → OnlyDevice plan.device old.queue new.queue
    → GoesQuiet plan kit old new
queue_quiet plan kit old new fits queue device told work log written = goes_apart plan kit old new work work queue.cpu queue.share queue.est device fits (kept_same plan old work) told log written
