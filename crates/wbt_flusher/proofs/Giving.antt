-- A page of a batch is given back, and told; or it isn't, and nothing is told.
use Rattle.std.proofs.Common.{◌≡◌, ℕ, ◌+◌, ◌<◌, ◌≤◌, ◌⊎◌, Bool, true, false, not, ◌==◌, cond, List, [], ◌∷◌, drop, length, get_or, inl, inr, ⊎_elim, sym, refl, ap, ◌∙◌, subst, arith, eqb, eq-eqb}
use Rattle.std.specs.Prelude.{Option, None, negsuc}
use Rattle.std.proofs.lemmas.Bool.{cond-true}
use Rattle.wbt_flusher.proofs.Common.{times_in, times, one_if, Owed, CpuRecord, setting, HasCounter, Each, CpuJournal, Grew, Logged, Flew, FliesInTurn, flusher_after, Gathered, gained_none, longer_none, logged_entry, logged_nothing, walked_none, Kit, Seats, record_of, record_is, only_same, Goes, IsReady, AreOwed, Fits, KeepsDebts, no_moments, Suits, end_of, inode_at, sight, phase_by, pages_by, landed_in, flusher_in, OwesRescan, OwesMark, completions, is_completion, list_by, HoldsPages, IsPhase, IsSteady, OwesInodeNothing, pairs_of}
use Rattle.wbt_kit.proofs.Common.{debts_of, bits_at, HasPageSteps, Made}
use Rattle.wbt_table.specs.Calls.{record_of as made_of}
use Rattle.wbt_journal.specs.Flights as flights
use Rattle.wbt_journal.specs.Told.{gave_back}
use Rattle.wbt_journal.specs.declared.entry.Entry.TheVariants as entry
use Rattle.wbt_run_steps.specs.Backs.{Came, GivesBack, HaltsBack, Kept as KeptBack, Returned, after_its_look, and_one, before_its_look}
use Rattle.wbt_run_steps.specs.Debts.{AreOnce}
use Rattle.wbt_run_steps.specs.Made.{MakesThese}
use Rattle.wbt_run_steps.proofs.Ordering.{page_once}
use Rattle.wbt_flusher.specs.Answers.{IsBack}
use Rattle.wbt_flusher.specs.Turns.{IsReturn}
use Rattle.wbt_flusher.specs.declared.plan.FlusherPlan.{FlusherPlan}
use Rattle.wbt_flusher.specs.declared.work.FlusherWork.{FlusherWork}
use Rattle.wbt_flusher.specs.declared.work.Phase.{Phase}
use Rattle.wbt_flusher.specs.declared.work.Phase.TheVariants.{Idle, Returning}
use Rattle.wbt_flusher.specs.declared.work.Return.{Return}
use Rattle.wbt_flusher.proofs.Acting.{Kept, OnRecord, did_act, flew_as, mark_or, on_cpu, told_as}
use Rattle.wbt_flusher.proofs.Changing.{Changed, changed}
use Rattle.wbt_flusher.proofs.Completing.{owed_of_page, own_flusher, page_is}
use Rattle.wbt_flusher.proofs.Fitting.{fits_cpu}
use Rattle.wbt_flusher.proofs.Batching.{drop_whole}
use Rattle.wbt_flusher.proofs.Going.{goes_quiet, holds_went, keeps_by, keeps_changed, rooms_went}
use Rattle.wbt_flusher.proofs.Handing.{owes_same}
use Rattle.wbt_flusher.proofs.Listing.{drop_at, fewer, one_of, passed}
use Rattle.wbt_flusher.proofs.Noting.{grows_none}
use Rattle.wbt_flusher.proofs.Waiting.{list_kept}

-- ---- what is told of the flusher

gives_one : (flusher page : ℕ) (absorbed : Bool) (rest : List ℕ) (faults : ℕ)
    → Flew flusher (told_as (flights.returned (page ∷ rest)) faults) (gave_back flusher page absorbed ∷ []) (told_as (flights.returned rest) faults)
gives_one flusher page absorbed rest faults = record {
  allowed = ((λ own. refl), tt);
  reached = cond-true (eqb flusher flusher) (told_as (flights.returned rest) faults) (told_as (flights.returning (page ∷ rest)) faults) (eq-eqb flusher flusher refl);
}

-- ---- what becomes of the record

-- giving a page back completes none
gives_none : (flusher page : ℕ) (absorbed : Bool) (r is : CpuRecord) → Grew (gave_back flusher page absorbed ∷ []) r is → completions is ≡ completions r
gives_none flusher page true r is grew = let events = ap (times is_completion) grew.events in omega arith
gives_none flusher page false r is grew = let events = ap (times is_completion) grew.events in omega arith

-- and is a page step
gives_step : (flusher page : ℕ) (absorbed : Bool) (r is : CpuRecord) → Grew (gave_back flusher page absorbed ∷ []) r is → is.page_steps ≡ r.page_steps + 1
gives_step flusher page true r is grew = grew.page_steps
gives_step flusher page false r is grew = grew.page_steps

one_or : (so : Bool) (i inode : ℕ) (marks : List ℕ) → 1 ≤ times_in i (and_one so inode marks) → (i ≡ inode) ⊎ (1 ≤ times_in i marks)
one_or true i inode marks some = one_of i inode marks some
one_or false i inode marks some = inr some

-- the record of the flusher's CPU came from one to another
came : (plan : FlusherPlan) (kit : Kit) (old new : Seats) (made : List Made) (P : CpuRecord → CpuRecord → Type 0) → MakesThese kit plan.cpu made old new → (by : Came plan.cpu P old new)
    → Changed plan.cpu by.was by.is old.cpu new.cpu
came plan kit old new made P makes by =
    let f = made_of (setting kit.throttle.layout) made in
    let now = changed plan.cpu f old.cpu new.cpu by.was makes.becomes by.had in
    let same : f by.was ≡ by.is = sym (record_is new.cpu.cpus plan.cpu (f by.was) now.has) ∙ record_is new.cpu.cpus plan.cpu by.is by.has in
    subst (λ (q : CpuRecord). Changed plan.cpu by.was q old.cpu new.cpu) same now

gathers_nothing : (r : CpuRecord) → Gathered [] r r
gathers_nothing r = record {
  folds = refl;
  events = refl;
  found_dirty = refl;
  page_steps = refl;
  readings = gained_none r.readings;
  limits = longer_none r.triples;
  fresh = tt;
}

-- ---- a return before a try, and after it

module _ (plan : FlusherPlan) (kit : Kit) (old new : Seats) (giving : Return) (suits : Suits plan kit) (was : FlusherWork) (at : was.phase ≡ Returning giving)
    (stands : IsReturn plan was.batch.items giving) where
  abbrev pub page : ℕ
  page = get_or was.batch.items giving.returned 0

  abbrev pub rest : List ℕ
  rest = drop (giving.returned + 1) was.batch.items

  page_own : ((inode_at plan giving.inode).first ≤ page) × (page < end_of plan giving.inode)
  page_own = stands.own giving.returned 0 stands.some_left

  pub page_there : page < plan.pages
  page_there = let less = suits.plan_is.pages giving.inode stands.inode.there in let below = page_own.1 in omega arith

  its_inode : (setting kit.throttle.layout).inode page ≡ giving.inode
  its_inode = suits.its_pages giving.inode page stands.inode.there page_own.0 page_own.1

  left_was : drop giving.returned was.batch.items ≡ page ∷ rest
  left_was = drop_at was.batch.items giving.returned stands.some_left

  pages_was : pages_by was.batch.items was.phase ≡ page ∷ rest
  pages_was = ap (pages_by was.batch.items) at ∙ left_was

  -- the next page is held
  pub page_held : HoldsPages plan was old → 1 ≤ times_in page (record_of plan.cpu old.cpu.cpus).held
  page_held holds =
      let has = holds page in
      let is_first = ap (times_in page) pages_was in
      let one : one_if (eqb page page) ≡ 1 = cond-true (eqb page page) 1 0 (eq-eqb page page refl) in omega arith

  -- a mark that is owed is that of the batch's inode, or was owed before
  mark_owed : (is : Phase) (next : Return) → is ≡ Returning next → next.inode ≡ giving.inode → (i : ℕ) (some : Bool) (marks : List ℕ)
      → 1 ≤ times_in i (and_one some ((setting kit.throttle.layout).inode page) marks) → OwesMark is i ⊎ ((1 ≤ times_in i marks) × (OwesMark was.phase i → ⊥))
  mark_owed is next is_at same i some marks owes =
      ⊎_elim (λ here. inl (subst (λ (p : Phase). OwesMark p i) (sym is_at) (here ∙ its_inode ∙ sym same)))
      (λ more. ⊎_elim (λ own. inl (subst (λ (p : Phase). OwesMark p i) (sym is_at) (subst (λ (p : Phase). OwesMark p i) at own ∙ sym same))) (λ other. inr (more, other)) (mark_or was.phase i))
      (one_or some i ((setting kit.throttle.layout).inode page) marks owes)

  none_rescan : (p : ℕ) → OwesRescan plan was.phase p → ⊥
  none_rescan p own = subst (λ (f : Phase). OwesRescan plan f p) at own

  -- it was given back
  module _ (before behind : CpuJournal) (absorbed : Bool) (gives : GivesBack kit plan.cpu plan.flusher page absorbed old new before behind) (ready : IsReady plan kit was old) where
    abbrev pub next : Return
    next = record giving { returned = giving.returned + 1 }

    abbrev pub given : FlusherWork
    given = record was { phase = Returning next }

    now : Changed plan.cpu gives.returned.was gives.returned.is old.cpu new.cpu
    now = came plan kit old new _ (Returned (setting kit.throttle.layout) plan.flusher page absorbed) gives.makes gives.returned

    pub fits_given : Fits plan kit new
    fits_given = fits_cpu plan kit old new _ ready.fits gives.makes.becomes gives.makes.only

    none_more : (written : Option ℕ) → OnRecord plan (gave_back plan.flusher page absorbed ∷ []) (sight was old before written) (sight given new behind written) gives.returned.was gives.returned.is
    none_more written =
        let r = gives.returned.was in
        let r' = gives.returned.is in
        let back = gives.returned.came in
        let same = owes_same plan was given refl (λ k. sym (ap (λ (p : Phase). landed_in plan p k) at)) in
        let completed = gives_none plan.flusher page absorbed r r' back.grew in
        record {
          grew = back.grew;
          writers = back.writers;
          held = λ q.
              let first = ap (times_in q) pages_was in
              let less = fewer page r.held (subst (λ (x : CpuRecord). 1 ≤ times_in page x.held) (record_is old.cpu.cpus plan.cpu r gives.returned.had) (page_held ready.holds)) q in
              let held = ap (times_in q) back.held in omega arith;
          rescans = λ p owes. inr ((passed (λ q. not (q == page)) p r.owed_rescans (subst (λ (l : List ℕ). 1 ≤ times_in p l) back.rescans owes)).there, none_rescan p);
          marks = λ i owes. mark_owed (Returning next) next refl refl i true r.owed_marks (subst (λ (l : List ℕ). 1 ≤ times_in i l) back.marks owes);
          completed = now.completed;
          owing_is = λ domain there. let less = same.domains domain there in omega arith;
          total_is = λ context there. let less = same.totals context there in omega arith;
        }

    pub goes_given : HasPageSteps (setting kit.throttle.layout) plan.cpu old.cpu → Goes plan kit old new before behind was given
    goes_given had told written =
        let s = sight was old before written in
        let t = sight given new behind written in
        let r = gives.returned.was in
        let r' = gives.returned.is in
        let back = gives.returned.came in
        let steps = gives_step plan.flusher page absorbed r r' back.grew in
        let completed = gives_none plan.flusher page absorbed r r' back.grew in
        let few : r.page_steps < (setting kit.throttle.layout).page_steps =
        subst (λ (q : CpuRecord). q.page_steps < (setting kit.throttle.layout).page_steps) (sym (record_is old.cpu.cpus plan.cpu had.0 had.1) ∙ record_is old.cpu.cpus plan.cpu r gives.returned.had) had.2 in
        let most = suits.few_page_steps in
        record {
          did = did_act plan kit told s t (record {
            added = gave_back plan.flusher page absorbed ∷ [];
            of_flusher = (record { no_write = refl; no_check = refl; flight = refl; wait = tt }, tt);
            plain = (record { no_check = refl; no_estimate = refl }, tt);
            adds_none = λ domain context. refl;
            logged = subst (λ (l : CpuJournal). Logged (gave_back plan.flusher page absorbed ∷ []) before l) (sym gives.told) (logged_entry (entry.Back plan.flusher page absorbed) before refl);
            own = λ trace work. (record { write = tt; fold = tt; check = tt; flight = record { own = own_flusher trace plan kit work; page = page_is trace plan kit page suits work page_there; chunk = tt }; share = tt; estimate = tt; wait = tt }, tt);
            moments = (record { batch = tt; estimate = tt; wait = tt }, tt);
            pages = grows_none written;
            flew = flew_as plan.flusher (gave_back plan.flusher page absorbed ∷ []) s t (flights.returned (page ∷ rest)) (flights.returned rest)
                (ap (phase_by was.batch.items) at ∙ ap flights.returned left_was) refl refl (gives_one plan.flusher page absorbed rest was.faults);
            waited = λ trace work. list_kept trace plan.flusher (gave_back plan.flusher page absorbed ∷ []) (list_by was) (list_by given) (refl, tt) refl;
            apart = now.apart;
            share = gives.makes.only.share;
            est = gives.makes.only.est;
            on_record = on_cpu plan (gave_back plan.flusher page absorbed ∷ []) s t r r' gives.returned.had now.has (none_more written);
          });
          fits = fits_given;
          cpus = keeps_by plan.cpu r r' old.cpu new.cpu now (λ counted. let each = counted.each plan.cpu r gives.returned.had in (omega arith, omega arith));
          queue = only_same plan.device old.queue new.queue gives.makes.only.queue;
        }

    -- its counters are owed an event, where it was absorbed
    owes_given : (so : Bool) → gives.returned.is.debts ≡ cond so (debts_of (setting kit.throttle.layout) page (negsuc 0)) gives.returned.was.debts → AreOwed plan kit new
    owes_given true is =
        let debts = ap (λ (q : CpuRecord). q.debts) (record_is new.cpu.cpus plan.cpu gives.returned.is gives.returned.has) ∙ is in
        record {
          there = subst (λ (l : List Owed). Each (λ (o : Owed). HasCounter kit.throttle.layout o.counter) l) (sym debts) (owed_of_page plan kit page suits page_there);
          once = subst (λ (l : List Owed). AreOnce l) (sym debts) (page_once (setting kit.throttle.layout) ((setting kit.throttle.layout).home page) (negsuc 0));
        }
    owes_given false is =
        let none = sym (ap (λ (q : CpuRecord). q.debts) (record_is old.cpu.cpus plan.cpu gives.returned.was gives.returned.had)) ∙ ready.owes_none in
        let debts = ap (λ (q : CpuRecord). q.debts) (record_is new.cpu.cpus plan.cpu gives.returned.is gives.returned.has) ∙ is ∙ none in
        record {
          there = subst (λ (l : List Owed). Each (λ (o : Owed). HasCounter kit.throttle.layout o.counter) l) (sym debts) tt;
          once = subst (λ (l : List Owed). AreOnce l) (sym debts) tt;
        }

    pub is_back : HasPageSteps (setting kit.throttle.layout) plan.cpu old.cpu → IsBack plan kit next given new
    is_back had =
        let lists = ready.steady.lists in
        let some = stands.some_left in
        let s = sight was old before None in
        let t = sight given new behind None in
        let went = goes_given had no_moments None in
        record {
          fits = fits_given;
          lists = record { proper = lists.proper; tallies = lists.tallies; waiting = lists.waiting; none_wait = lists.none_wait; wheel = lists.wheel; places = lists.places };
          phase = refl;
          few_faults = ready.steady.few_faults;
          inode = stands.inode;
          returned = omega arith;
          own = stands.own;
          few = stands.few;
          holds = holds_went plan kit no_moments s t went ready.holds;
          rooms = rooms_went plan kit no_moments s t went ready.rooms;
          owed = owes_given absorbed gives.returned.came.debts;
        }

  -- it wasn't
  module _ (before : CpuJournal) (made : List Made) (dirty : Bool) (makes : MakesThese kit plan.cpu made old new) (by : Came plan.cpu (KeptBack (setting kit.throttle.layout) page dirty) old new)
      (fits : Fits plan kit old) where
    kept_now : Changed plan.cpu by.was by.is old.cpu new.cpu
    kept_now = came plan kit old new made (KeptBack (setting kit.throttle.layout) page dirty) makes by

    pub fits_kept : Fits plan kit new
    fits_kept = fits_cpu plan kit old new _ fits makes.becomes makes.only

    pub debts_kept : KeepsDebts plan old new
    debts_kept = ap (λ (q : CpuRecord). q.debts) (record_is new.cpu.cpus plan.cpu by.is by.has) ∙ by.came.debts ∙ sym (ap (λ (q : CpuRecord). q.debts) (record_is old.cpu.cpus plan.cpu by.was by.had))

    pub goes_kept_back : Goes plan kit old new before before was was
    goes_kept_back told written =
        let s = sight was old before written in
        let t = sight was new before written in
        let r = by.was in
        let r' = by.is in
        let kept = by.came in
        let completed : completions r' ≡ completions r = ap (times is_completion) kept.grew.events in
        let steps = kept.grew.page_steps in
        record {
          did = did_act plan kit told s t (record {
            added = [];
            of_flusher = tt;
            plain = tt;
            adds_none = λ domain context. refl;
            logged = logged_nothing before;
            own = λ trace work. tt;
            moments = tt;
            pages = grows_none written;
            flew = walked_none (FliesInTurn plan.flusher) (flusher_after plan.flusher) (flusher_in s);
            waited = λ trace work. list_kept trace plan.flusher [] (list_by was) (list_by was) tt refl;
            apart = kept_now.apart;
            share = makes.only.share;
            est = makes.only.est;
            on_record = on_cpu plan [] s t r r' by.had by.has (record {
              grew = kept.grew;
              writers = kept.writers;
              held = λ q. let held = ap (times_in q) kept.held in omega arith;
              rescans = λ p owes. inr ((passed (λ q. not (q == page)) p r.owed_rescans (subst (λ (l : List ℕ). 1 ≤ times_in p l) kept.rescans owes)).there, none_rescan p);
              marks = λ i owes. mark_owed was.phase giving at refl i dirty r.owed_marks (subst (λ (l : List ℕ). 1 ≤ times_in i l) kept.marks owes);
              completed = kept_now.completed;
              owing_is = λ domain there. omega arith;
              total_is = λ context there. omega arith;
            });
          });
          fits = fits_kept;
          cpus = keeps_changed plan.cpu r r' old.cpu new.cpu kept_now by.had completed (omega arith);
          queue = only_same plan.device old.queue new.queue makes.only.queue;
        }

  -- where the gate stopped it
  pub goes_halted : (before : CpuJournal) (made : List Made) → MakesThese kit plan.cpu made old new → Fits plan kit old → HaltsBack kit plan.cpu page old new → Goes plan kit old new before before was was
  goes_halted before made makes fits (before_its_look by) told written =
      goes_quiet plan kit old new (record {
        was = by.was;
        is = by.is;
        has = by.had;
        changed = came plan kit old new made (λ r is. is ≡ r) makes by;
        loads = [];
        gathered = subst (λ (q : CpuRecord). Gathered [] by.was q) (sym by.came) (gathers_nothing by.was);
        share = makes.only.share;
        est = makes.only.est;
        queue = makes.only.queue;
        writers = ap (λ (q : CpuRecord). q.writers) by.came;
        held = ap (λ (q : CpuRecord). q.held) by.came;
        rescans = ap (λ (q : CpuRecord). q.owed_rescans) by.came;
        marks = ap (λ (q : CpuRecord). q.owed_marks) by.came;
      }) (fits_cpu plan kit old new _ fits makes.becomes makes.only) told was before written
  goes_halted before made makes fits (after_its_look n writeback by) told written = goes_kept_back before made (bits_at n page).dirty makes by fits told written

-- ---- between its pages

pub return_of : (plan : FlusherPlan) (work : FlusherWork) (giving : Return) → IsSteady plan work → work.phase ≡ Returning giving → IsReturn plan work.batch.items giving
return_of plan work giving steady at = subst (λ (p : Phase). IsPhase plan work.batch.items p) at steady.phase

-- pages of it are left
pub still_returns : (plan : FlusherPlan) (kit : Kit) (giving : Return) (work : FlusherWork) (seats : Seats) → IsBack plan kit giving work seats → giving.returned < length work.batch.items → IsSteady plan work
still_returns plan kit giving work seats back some = record {
  lists = back.lists;
  phase = subst (λ (p : Phase). IsPhase plan work.batch.items p) (sym back.phase) (record { inode = back.inode; some_left = some; own = back.own; few = back.few });
  few_faults = back.few_faults;
}

-- ---- after its last page

-- the flusher has no batch any more, and rests
pub kept_return : (plan : FlusherPlan) (seats : Seats) (was is : FlusherWork) (giving : Return) (until : ℕ) → was.phase ≡ Returning giving → giving.returned ≡ length was.batch.items → OwesInodeNothing plan giving.inode seats
    → is.phase ≡ Idle until false → is.batch.items ≡ [] → is.faults ≡ was.faults → is.tallies.items ≡ was.tallies.items → is.wheel ≡ was.wheel → Kept plan seats was is
kept_return plan seats was is giving until at all pays is_at none faults tallies wheel =
    let left : drop giving.returned was.batch.items ≡ [] = ap (λ (n : ℕ). drop n was.batch.items) all ∙ drop_whole was.batch.items in
    let less = owes_same plan was is tallies (λ k. ap (λ (p : Phase). landed_in plan p k) is_at ∙ sym (ap (λ (p : Phase). landed_in plan p k) at)) in
    record {
      phase = ap (phase_by is.batch.items) is_at ∙ sym (ap (phase_by was.batch.items) at ∙ ap flights.returned left);
      faults = faults;
      waits = ap pairs_of wheel;
      held = λ page. ap (times_in page) (ap (pages_by is.batch.items) is_at ∙ sym (ap (pages_by was.batch.items) at ∙ left));
      rescans = λ page owes own. absurd (subst (λ (p : Phase). OwesRescan plan p page) at own);
      marks = λ inode owes own.
          let same : inode ≡ giving.inode = subst (λ (p : Phase). OwesMark p inode) at own in
          absurd (pays.mark (subst (λ (i : ℕ). 1 ≤ times_in i (record_of plan.cpu seats.cpu.cpus).owed_marks) same owes));
      owing_is = less.domains;
      total_is = less.totals;
    }
