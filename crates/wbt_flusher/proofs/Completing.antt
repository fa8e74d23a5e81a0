-- A page of a flight is completed, and told.
use Rattle.std.proofs.Common.{◌≡◌, ℕ, ◌+◌, ◌<◌, ◌≤◌, Bool, true, false, if◌then◌else◌, Some, None, List, [], ◌∷◌, All, length, get_or, map, sym, refl, ap, ◌∙◌, subst, arith, cond, eqb, eq-eqb}
use Rattle.std.specs.Prelude.{negsuc}
use Rattle.std.proofs.lemmas.Bool.{cond_both, cond-true, lt-ltb}
use Rattle.std.proofs.lemmas.Option.{get_or_from_slice_get, slice_get_within}
use Rattle.wbt_flusher.proofs.Common.{one_if, Counter, Domain, times_in, Owed, complete, record_after, CpuRecord, MOST_PAGE_STEPS, setting, HasCounter, Has, Changes, Device, FlusherLine, Trace, Each, CpuJournal, with_entry, logged_entry, Kit, Seats, record_is, record_of, OnlyCpu, only_same, Goes, Fits, Works, AreOwed, Suits, IsPlanOf, IsWork, context_of, sight, pages_by, list_by, IsFlight, HoldsPages, pairs_of}
use Rattle.wbt_kit.proofs.Common.{Event, debts_of, page_context, flusher_device, is_on}
use Rattle.wbt_table.specs.Layout.{domains}
use Rattle.wbt_journal.specs.Checks.{has_page}
use Rattle.wbt_journal.specs.Flights.{is_own_flusher}
use Rattle.wbt_rules.specs.Flusher.{chunk_at}
use Rattle.wbt_rules.specs.Things.{device_at, flusher_cpu}
use Rattle.wbt_journal.specs.Told.{done}
use Rattle.wbt_journal.specs.declared.entry.Entry.TheVariants as entry
use Rattle.wbt_run_steps.specs.Debts.{AreOnce}
use Rattle.wbt_run_steps.proofs.Ordering.{page_once}
use Rattle.wbt_flusher.specs.declared.plan.FlusherPlan.{FlusherPlan}
use Rattle.wbt_flusher.specs.declared.work.Flight.{Flight}
use Rattle.wbt_flusher.specs.declared.work.Phase.TheVariants.{Flying}
use Rattle.wbt_flusher.specs.declared.work.FlusherWork.{FlusherWork}
use Rattle.wbt_flusher.proofs.Acting.{did_act, on_cpu}
use Rattle.wbt_flusher.proofs.Changing.{changed}
use Rattle.wbt_flusher.proofs.Fitting.{fits_cpu}
use Rattle.wbt_flusher.proofs.Lands.{completed_flew, completed_on}
use Rattle.wbt_flusher.proofs.Listing.{drop_at}
use Rattle.wbt_flusher.proofs.Noting.{grows_none}
use Rattle.wbt_flusher.proofs.Going.{keeps_by}
use Rattle.wbt_flusher.proofs.Waiting.{list_kept}

-- ---- whose an entry is

pub own_flusher : (trace : Trace) (plan : FlusherPlan) (kit : Kit) → IsWork trace plan kit → is_own_flusher trace plan.cpu plan.flusher ≡ true
own_flusher trace plan kit work =
    let line : FlusherLine = record { device = plan.device; cpu = plan.cpu } in
    let its : get_or trace.flushers plan.flusher (record { device = 0; cpu = 0 }) ≡ line = get_or_from_slice_get trace.flushers plan.flusher line (record { device = 0; cpu = 0 }) work.plan_is.line in
    ap (λ (b : Bool). is_on plan.cpu (if b then Some (flusher_cpu trace plan.flusher) else None)) (lt-ltb plan.flusher (length trace.flushers) (slice_get_within trace.flushers plan.flusher line work.plan_is.line))
    ∙ ap (λ (l : FlusherLine). is_on plan.cpu (Some l.cpu)) its ∙ eq-eqb plan.cpu plan.cpu refl

-- the line of the flusher's device is the one that it knows
pub chunk_is : (trace : Trace) (plan : FlusherPlan) → IsPlanOf trace plan → chunk_at trace plan.flusher ≡ plan.shares.chunk
chunk_is trace plan is =
    let line : FlusherLine = record { device = plan.device; cpu = plan.cpu } in
    let no_line : FlusherLine = record { device = 0; cpu = 0 } in
    let no_device : Device = record { rate = 1; min = 0; max = 100; strict = false; chunk = None; cyclic = false } in
    let device : flusher_device trace plan.flusher ≡ plan.device = ap (λ (l : FlusherLine). l.device) (get_or_from_slice_get trace.flushers plan.flusher line no_line is.line) in
    ap (λ (d : ℕ). (device_at trace d).chunk) device ∙ ap (λ (d : Device). d.chunk) (get_or_from_slice_get trace.devices plan.device plan.shares no_device is.shares)

pub page_is : (trace : Trace) (plan : FlusherPlan) (kit : Kit) (page : ℕ) → Suits plan kit → IsWork trace plan kit → page < plan.pages → has_page (page_context trace page) ≡ true
page_is trace plan kit page suits work less = ap has_page (work.throttle.homes page (let a = suits.pages_are in let b = work.throttle.pages_are in omega arith))

-- ---- a completed page

pub record Completed (plan : FlusherPlan) (kit : Kit) (old new : Seats) (before behind : CpuJournal) (was is : FlusherWork) : Type 0 where
  pub fits : Fits plan kit new
  pub goes : Goes plan kit old new before behind was is
  pub owed : AreOwed plan kit new

all_at : (P : ℕ → Type 0) (xs : List ℕ) (n : ℕ) → n < length xs → All P xs → P (get_or xs n 0)
all_at P xs n less all = all n 0 less

-- a page's counters are there
pub owed_of_page : (plan : FlusherPlan) (kit : Kit) (page : ℕ) → Suits plan kit → page < plan.pages → Each (λ (o : Owed). HasCounter kit.throttle.layout o.counter) (debts_of (setting kit.throttle.layout) page (negsuc 0))
owed_of_page plan kit page suits less = (in_contexts, (some, by))
  where
    k : ℕ
    k = (setting kit.throttle.layout).home page

    group : ℕ
    group = (setting kit.throttle.layout).group k

    in_contexts : k < length kit.throttle.layout.contexts
    in_contexts = suits.counted page less

    some : 0 < domains kit.throttle.layout
    some = let a = suits.domains_are in let b = suits.plan_is.some_domain in omega arith

    rest : List Counter → List Owed
    rest xs = map (λ x. record { counter = x; debt = Event (negsuc 0) }) xs

    by : Each (λ (o : Owed). HasCounter kit.throttle.layout o.counter) (rest (cond (eqb group 0) [] (Domain group ∷ [])))
    by = cond_both (eqb group 0) [] (Domain group ∷ []) (λ (xs : List Counter). Each (λ (o : Owed). HasCounter kit.throttle.layout o.counter) (rest xs))
        (λ is. tt) (λ not. (suits.counted_in k in_contexts, tt))

-- the next page of a flight is held
pub next_held : (plan : FlusherPlan) (work : FlusherWork) (seats : Seats) (flight : Flight) → work.phase ≡ Flying flight → IsFlight plan work.batch.items flight → HoldsPages plan work seats
    → 1 ≤ times_in (get_or work.batch.items flight.landed 0) (record_of plan.cpu seats.cpu.cpus).held
next_held plan work seats flight at flies holds =
    let next : ℕ = get_or work.batch.items flight.landed 0 in
    let has = holds next in
    let is_first = ap (times_in next) (ap (pages_by work.batch.items) at ∙ drop_at work.batch.items flight.landed flies.some_left) in
    let one : one_if (eqb next next) ≡ 1 = cond-true (eqb next next) 1 0 (eq-eqb next next refl) in omega arith

module _ (plan : FlusherPlan) (kit : Kit) (old new : Seats) (before : CpuJournal) (was is : FlusherWork) (flight next : Flight) (n : ℕ)
    (suits : Suits plan kit) (fits : Fits plan kit old) (only : OnlyCpu old new) (was_at : was.phase ≡ Flying flight) (is_at : is.phase ≡ Flying next)
    (inode : next.inode ≡ flight.inode) (landed : next.landed ≡ flight.landed + 1)
    (tallies : is.tallies.items ≡ was.tallies.items) (faults : is.faults ≡ was.faults) (wheel : is.wheel ≡ was.wheel) (batch : is.batch.items ≡ was.batch.items) (flies : IsFlight plan was.batch.items flight)
    (holds : HoldsPages plan was old) where
  abbrev pub page : ℕ
  page = get_or was.batch.items flight.landed 0

  pub page_there : page < plan.pages
  page_there = all_at (λ p. p < plan.pages) was.batch.items flight.landed flies.some_left flies.pages

  pub page_held : 1 ≤ times_in page (record_of plan.cpu old.cpu.cpus).held
  page_held = next_held plan was old flight was_at flies holds

  pub completes_page : (r : CpuRecord) → Has old.cpu.cpus plan.cpu r → r.page_steps < MOST_PAGE_STEPS
      → Changes plan.cpu (record_after (setting kit.throttle.layout) (complete plan.cpu page) n) old.cpu new.cpu
      → Completed plan kit old new before (with_entry (entry.Done plan.flusher page) before) was is
  completes_page r has few change =
      let set' = setting kit.throttle.layout in
      let f = record_after set' (complete plan.cpu page) n in
      let now = changed plan.cpu f old.cpu new.cpu r change has in
      let there : context_of plan flight.inode < length plan.contexts = suits.plan_is.contexts flight.inode flies.inode.there in
      let held : 1 ≤ times_in page r.held = subst (λ (q : CpuRecord). 1 ≤ times_in page q.held) (record_is old.cpu.cpus plan.cpu r has) page_held in
      let behind = with_entry (entry.Done plan.flusher page) before in
      let works : Works plan kit old new before behind was is = λ told written.
      let s = sight was old before written in
      let t = sight is new behind written in
      did_act plan kit told s t (record {
        added = done plan.flusher page ∷ [];
        of_flusher = (record { no_write = refl; no_check = refl; flight = refl; wait = tt }, tt);
        plain = (record { no_check = refl; no_estimate = refl }, tt);
        adds_none = λ domain context. refl;
        logged = logged_entry (entry.Done plan.flusher page) before refl;
        own = λ trace work. (record { write = tt; fold = tt; check = tt; flight = record { own = own_flusher trace plan kit work; page = page_is trace plan kit page suits work page_there; chunk = tt }; share = tt; estimate = tt; wait = tt }, tt);
        moments = (record { batch = tt; estimate = tt; wait = tt }, tt);
        pages = grows_none written;
        flew = completed_flew plan set' s t flight next n r was_at is_at inode landed tallies batch flies.some_left faults;
        waited = λ trace work. list_kept trace plan.flusher (done plan.flusher page ∷ []) (list_by was) (list_by is) (refl, tt) (ap pairs_of wheel);
        apart = now.apart;
        share = only.share;
        est = only.est;
        on_record = on_cpu plan (done plan.flusher page ∷ []) s t r (f r) has now.has
            (completed_on plan set' s t flight next n r was_at is_at inode landed tallies batch flies.some_left held there now.completed);
      }) in
      let fits' = fits_cpu plan kit old new f fits change only in
      record {
        fits = fits';
        goes = λ told written. record {
          did = works told written;
          fits = fits';
          cpus = keeps_by plan.cpu r (f r) old.cpu new.cpu now (λ counted. let each = counted.each plan.cpu r has in (omega arith, omega arith));
          queue = only_same plan.device old.queue new.queue only.queue;
        };
        owed = record {
          there = subst (λ (q : CpuRecord). Each (λ (o : Owed). HasCounter kit.throttle.layout o.counter) q.debts) (sym (record_is new.cpu.cpus plan.cpu (f r) now.has))
              (owed_of_page plan kit page suits page_there);
          once = subst (λ (q : CpuRecord). AreOnce q.debts) (sym (record_is new.cpu.cpus plan.cpu (f r) now.has)) (page_once set' (set'.home page) (negsuc 0));
        };
      }
