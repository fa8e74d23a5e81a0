-- What a look at a scan's next page did.
use Rattle.std.proofs.Common.{get_or, inl, inr, ne_eqb, ◌≡◌, ◌≢◌, ◌⊎◌, ℕ, ◌+◌, ◌/◌, ◌^◌, ◌<◌, ◌≤◌, Bool, true, false, not, ◌&&◌, eqb, List, [], ◌∷◌, ◌++◌, All, length, sym, refl, ap, ◌∙◌, subst, arith, eq-eqb, length-append}
use Rattle.std.proofs.lemmas.Bool.{cond-true}
use Rattle.wbt_book.specs.Book.{is_claimable}
use Rattle.wbt_flusher.proofs.Common.{look, claim, record_after, CpuRecord, setting, Changes, Seated, CpuJournal, page_of, Scan, Setting, with_entry, Flew, flusher_after, FliesInTurn, logged_nothing, logged_entry, walked_none, Kit, Seats, OnlyCpu, only_same, Goes, Fits, KeepsDebts, IsPlan, Suits, end_of, inode_at, sight, phase_by, pages_by, landed_in, owing_total, first_tallies, completions, all_completions, list_by, AreOf, IsScan, steps_grow, pairs_of}
use Rattle.wbt_kit.proofs.Common.{bits_at, Halts}
use Rattle.wbt_book.specs.PageWords.{bits_of, shift_of}
use Rattle.wbt_grant.specs.Record
use Rattle.std.proofs.lemmas.List.Elements.{All-append, All-cons, All-nil}
use Rattle.wbt_fraction.specs.Several as share
use Rattle.wbt_published.specs.Passes as est
use Rattle.wbt_queue.specs.Passes as queue
use Rattle.wbt_table.specs.Calls.{before_its_look, after_its_look, looked_at, tried}
use Rattle.wbt_journal.specs.Flights as flights
use Rattle.wbt_journal.specs.Told.{claimed}
use Rattle.wbt_journal.specs.declared.entry.Entry.TheVariants as entry
use Rattle.wbt_flusher.specs.Looks.{HasPassed}
use Rattle.wbt_flusher.specs.declared.plan.FlusherPlan.{FlusherPlan}
use Rattle.wbt_flusher.specs.declared.tally.Tallies.{Tallies}
use Rattle.wbt_flusher.specs.declared.work.Phase.{Phase}
use Rattle.wbt_flusher.specs.declared.work.Phase.TheVariants.{Scanning}
use Rattle.wbt_rules.proofs.Places.{page_inside}
use Rattle.wbt_flusher.specs.declared.work.FlusherWork.{FlusherWork}
use Rattle.wbt_flusher.proofs.Acting.{did_act, flew_as, on_cpu, told_as}
use Rattle.wbt_flusher.proofs.Changing.{changed}
use Rattle.wbt_flusher.proofs.Claiming.{after_claim, after_miss, after_look, claim_is, look_is, miss_is, pass_is, after_pass, claimed_on, passed_on, both_bits}
use Rattle.wbt_flusher.proofs.Completing.{own_flusher, page_is}
use Rattle.wbt_flusher.proofs.Fitting.{GivesQuiet, fits_cpu, gives_quiet, keeps_debts}
use Rattle.wbt_flusher.proofs.Going.{keeps_changed, kept_same}
use Rattle.wbt_flusher.proofs.Keeping.{still_fits, goes_apart, debts_same}
use Rattle.wbt_flusher.proofs.Noting.{grows_none}
use Rattle.wbt_flusher.proofs.Owing.{owing_stays}
use Rattle.wbt_run_laws.proofs.Stepping.{gathered_more}
use Rattle.wbt_grant.specs.declared.who.StepKind.TheVariants as kind
use Rattle.wbt_grant.specs.declared.who.Word.TheVariants as word
use Rattle.wbt_flusher.proofs.Waiting.{list_kept}

takes : (flusher page : ℕ) (batch : List ℕ) (faults : ℕ) → Flew flusher (told_as (flights.scanning batch) faults) (claimed flusher page ∷ []) (told_as (flights.scanning (batch ++ page ∷ [])) faults)
takes flusher page batch faults = record {
  allowed = ((λ own. tt), tt);
  reached = cond-true (eqb flusher flusher) (told_as (flights.scanning (batch ++ page ∷ [])) faults) (told_as (flights.scanning batch) faults) (eq-eqb flusher flusher refl);
}

-- the page at which a scan looks is one of its inode
pub page_own : (plan : FlusherPlan) (batch : List ℕ) (scan : Scan) → IsScan plan batch scan → ((inode_at plan scan.inode).first ≤ page_of scan) × (page_of scan < end_of plan scan.inode)
page_own plan batch scan stands =
    let first = stands.first_is in
    let pages = stands.pages_are in
    let inside = page_inside scan.first scan.pages scan.start scan.passed stands.start in
    let low = inside.0 in
    let high = inside.1 in
    (omega arith, omega arith)

-- what a call gives
pub record Gives (plan : FlusherPlan) (kit : Kit) (old new : Seats) (before behind : CpuJournal) (was is : FlusherWork) : Type 0 where
  pub goes : Goes plan kit old new before behind was is
  pub fits : Fits plan kit new
  pub debts : KeepsDebts plan old new

module _ (plan : FlusherPlan) (kit : Kit) (old new : Seats) (before : CpuJournal) (was is : FlusherWork) (scan next : Scan) (n : ℕ)
    (suits : Suits plan kit) (fits : Fits plan kit old) (only : OnlyCpu old new) (stands : IsScan plan was.batch.items scan)
    (was_at : was.phase ≡ Scanning scan) (is_at : is.phase ≡ Scanning next) (next_is : next ≡ record scan { passed = scan.passed + 1; noted = next.noted })
    (noted : scan.noted ≡ true → next.noted ≡ true) (tallies : is.tallies.items ≡ was.tallies.items) (faults : is.faults ≡ was.faults) (wheel : is.wheel ≡ was.wheel) where
  none_landed : (k : ℕ) → landed_in plan is.phase k ≡ landed_in plan was.phase k
  none_landed k = ap (λ (p : Phase). landed_in plan p k) is_at ∙ sym (ap (λ (p : Phase). landed_in plan p k) was_at)

  totals_stay : (k : ℕ) → owing_total plan k is ≡ owing_total plan k was
  totals_stay k = let a = ap (λ (l : List Tallies). (get_or l k first_tallies).written) tallies in let b = none_landed k in omega arith

  own_page : ((inode_at plan scan.inode).first ≤ page_of scan) × (page_of scan < end_of plan scan.inode)
  own_page = page_own plan was.batch.items scan stands

  page_there : page_of scan < plan.pages
  page_there = let low = suits.plan_is.pages scan.inode stands.inode.there in let high = own_page.1 in omega arith

  pub claims_page : is.batch.items ≡ was.batch.items ++ page_of scan ∷ [] → is_claimable (bits_at n (page_of scan)) ≡ true
      → Changes plan.cpu (tried (setting kit.throttle.layout) plan.cpu (page_of scan) n n) old.cpu new.cpu
      → Gives plan kit old new before (with_entry (entry.Claimed plan.flusher (page_of scan)) before) was is
  claims_page batch claimable change =
      let set' = setting kit.throttle.layout in
      let f = tried set' plan.cpu (page_of scan) n n in
      let r = fits.held.0 in
      let has = fits.held.1 in
      let now = changed plan.cpu f old.cpu new.cpu r change has in
      let becomes : f r ≡ after_claim set' plan.cpu (page_of scan) n r = claim_is set' plan.cpu (page_of scan) n r claimable in
      let behind = with_entry (entry.Claimed plan.flusher (page_of scan)) before in
      let fits' = fits_cpu plan kit old new f fits change only in
      let pages : pages_by is.batch.items is.phase ≡ pages_by was.batch.items was.phase ++ page_of scan ∷ [] =
      ap (pages_by is.batch.items) is_at ∙ batch ∙ ap (λ (l : List ℕ). l ++ page_of scan ∷ []) (sym (ap (pages_by was.batch.items) was_at)) in
      record {
        goes = λ told written.
            let s = sight was old before written in
            let t = sight is new behind written in
            record {
              did = did_act plan kit told s t (record {
                added = claimed plan.flusher (page_of scan) ∷ [];
                of_flusher = (record { no_write = refl; no_check = refl; flight = refl; wait = tt }, tt);
                plain = (record { no_check = refl; no_estimate = refl }, tt);
                adds_none = λ domain context. refl;
                logged = logged_entry (entry.Claimed plan.flusher (page_of scan)) before refl;
                own = λ trace work. (record { write = tt; fold = tt; check = tt; flight = record { own = own_flusher trace plan kit work; page = page_is trace plan kit (page_of scan) suits work page_there; chunk = tt }; share = tt; estimate = tt; wait = tt }, tt);
                moments = (record { batch = tt; estimate = tt; wait = tt }, tt);
                pages = grows_none written;
                flew = flew_as plan.flusher (claimed plan.flusher (page_of scan) ∷ []) s t (flights.scanning was.batch.items) (flights.scanning (was.batch.items ++ page_of scan ∷ []))
                    (ap (phase_by was.batch.items) was_at) (ap (phase_by is.batch.items) is_at ∙ ap flights.scanning batch) faults (takes plan.flusher (page_of scan) was.batch.items was.faults);
                waited = λ trace work. list_kept trace plan.flusher (claimed plan.flusher (page_of scan) ∷ []) (list_by was) (list_by is) (refl, tt) (ap pairs_of wheel);
                apart = now.apart;
                share = only.share;
                est = only.est;
                on_record = on_cpu plan (claimed plan.flusher (page_of scan) ∷ []) s t r (f r) has now.has
                    (claimed_on plan set' s t n r scan next was_at is_at next_is noted (owing_stays plan was is tallies none_landed) totals_stay claimable pages
                    (now.completed ∙ ap (λ (q : CpuRecord). all_completions old.cpu.cpus + completions q) becomes));
              });
              fits = fits';
              cpus = keeps_changed plan.cpu r (f r) old.cpu new.cpu now has (ap completions becomes ∙ (let one : completions (after_claim set' plan.cpu (page_of scan) n r) ≡ completions r = omega arith in one)) (ap (λ (q : CpuRecord). q.page_steps) becomes);
              queue = only_same plan.device old.queue new.queue only.queue;
            };
        fits = fits';
        debts = keeps_debts plan old new f r has change (ap (λ (q : CpuRecord). q.debts) becomes);
      }

  pub passes_page : is.batch.items ≡ was.batch.items → is_claimable (bits_at n (page_of scan)) ≡ false
      → ((((bits_at n (page_of scan)).dirty) && (bits_at n (page_of scan)).writeback) ≡ true → next.noted ≡ true)
      → Changes plan.cpu (looked_at (setting kit.throttle.layout) plan.cpu (page_of scan) n) old.cpu new.cpu → Gives plan kit old new before before was is
  passes_page batch other notes change =
      let set' = setting kit.throttle.layout in
      let f = looked_at set' plan.cpu (page_of scan) n in
      let r = fits.held.0 in
      let has = fits.held.1 in
      let now = changed plan.cpu f old.cpu new.cpu r change has in
      let becomes = pass_is set' plan.cpu (page_of scan) n r other in
      let both = (bits_at n (page_of scan)).dirty && (bits_at n (page_of scan)).writeback in
      let fits' = fits_cpu plan kit old new f fits change only in
      let done : completions (f r) ≡ completions r = ap completions becomes ∙ same_completions both set' r in
      let pages : pages_by is.batch.items is.phase ≡ pages_by was.batch.items was.phase = ap (pages_by is.batch.items) is_at ∙ batch ∙ sym (ap (pages_by was.batch.items) was_at) in
      record {
        goes = λ told written.
            let s = sight was old before written in
            let t = sight is new before written in
            record {
              did = did_act plan kit told s t (record {
                added = [];
                of_flusher = tt;
                plain = tt;
                adds_none = λ domain context. refl;
                logged = logged_nothing before;
                own = λ trace work. tt;
                moments = tt;
                pages = grows_none written;
                flew = flew_as plan.flusher [] s t (flights.scanning was.batch.items) (flights.scanning was.batch.items)
                    (ap (phase_by was.batch.items) was_at) (ap (phase_by is.batch.items) is_at ∙ ap flights.scanning batch) faults
                    (walked_none (FliesInTurn plan.flusher) (flusher_after plan.flusher) (told_as (flights.scanning was.batch.items) was.faults));
                waited = λ trace work. list_kept trace plan.flusher [] (list_by was) (list_by is) tt (ap pairs_of wheel);
                apart = now.apart;
                share = only.share;
                est = only.est;
                on_record = on_cpu plan [] s t r (f r) has now.has
                    (passed_on plan set' s t n r scan next was_at is_at next_is noted (owing_stays plan was is tallies none_landed) totals_stay both refl other notes
                    (suits.its_pages scan.inode (page_of scan) stands.inode.there own_page.0 own_page.1) pages
                    (now.completed ∙ ap (λ (m : ℕ). all_completions old.cpu.cpus + m) done));
              });
              fits = fits';
              cpus = keeps_changed plan.cpu r (f r) old.cpu new.cpu now has done (ap (λ (q : CpuRecord). q.page_steps) becomes ∙ same_steps both set' r);
              queue = only_same plan.device old.queue new.queue only.queue;
            };
        fits = fits';
        debts = keeps_debts plan old new f r has change (ap (λ (q : CpuRecord). q.debts) becomes ∙ same_debts both set' r);
      }
    where
      same_completions : (b : Bool) (set' : Setting) (r : CpuRecord) → completions (Record.stepped kind.Look (word.Page (page_of scan)) n (after_pass set' plan.cpu (page_of scan) n r b)) ≡ completions r
      same_completions true set' r = refl
      same_completions false set' r = refl

      same_steps : (b : Bool) (set' : Setting) (r : CpuRecord) → (Record.stepped kind.Look (word.Page (page_of scan)) n (after_pass set' plan.cpu (page_of scan) n r b)).page_steps ≡ r.page_steps
      same_steps true set' r = refl
      same_steps false set' r = refl

      same_debts : (b : Bool) (set' : Setting) (r : CpuRecord) → (Record.stepped kind.Look (word.Page (page_of scan)) n (after_pass set' plan.cpu (page_of scan) n r b)).debts ≡ r.debts
      same_debts true set' r = refl
      same_debts false set' r = refl

-- ---- steps that no entry tells

module _ (plan : FlusherPlan) (kit : Kit) (old new : Seats) (page n : ℕ) (fits : Fits plan kit old) (only : OnlyCpu old new) (claimable : is_claimable (bits_at n page) ≡ true) where
  pub looks_at : Changes plan.cpu (looked_at (setting kit.throttle.layout) plan.cpu page n) old.cpu new.cpu → GivesQuiet plan kit old new
  looks_at change =
      let set' = setting kit.throttle.layout in
      let r = fits.held.0 in
      gives_quiet plan kit old new fits (looked_at set' plan.cpu page n) [] change only (after_look set' plan.cpu page n r) (look_is set' plan.cpu page n r claimable) ((steps_grow set' n r).untold (look plan.cpu page) refl) refl refl refl refl refl

  pub misses : (m : ℕ) → n ≢ m → Changes plan.cpu (tried (setting kit.throttle.layout) plan.cpu page n m) old.cpu new.cpu → GivesQuiet plan kit old new
  misses m other change =
      let set' = setting kit.throttle.layout in
      let r = fits.held.0 in
      let mid = record_after set' (look plan.cpu page) n r in
      gives_quiet plan kit old new fits (tried set' plan.cpu page n m) [] change only (after_miss set' plan.cpu page n r m) (miss_is set' plan.cpu page n r m claimable other)
      (gathered_more [] [] r mid (record_after set' (claim plan.cpu page) m mid) ((steps_grow set' n r).untold (look plan.cpu page) refl) ((steps_grow set' m mid).untold (claim plan.cpu page) (ap not (ne_eqb m n (λ same. other (sym same))))))
      refl refl refl refl refl

-- the number of a page says that it has both bits exactly where it has
pub both_of : (n page : ℕ) → eqb (bits_of n page) 3 ≡ ((bits_at n page).dirty && (bits_at n page).writeback)
both_of n page = both_bits (n / 2 ^ shift_of page)

-- ---- where the scan stands

-- it went on by a page
pub passed_scan : (plan : FlusherPlan) (was is : List ℕ) (scan next : Scan) → IsScan plan was scan → scan.passed < scan.pages → next ≡ record scan { passed = scan.passed + 1; noted = next.noted }
    → All (λ page. page < plan.pages) is → AreOf plan scan.inode is → length is ≤ length was + 1 → length is ≤ scan.quota → IsScan plan is next
passed_scan plan was is scan next stands within next_is pages own few within_quota =
    let most = stands.few in
    subst (λ (s : Scan). IsScan plan is s) (sym next_is) (record {
      inode = stands.inode;
      first_is = stands.first_is;
      pages_are = stands.pages_are;
      start = stands.start;
      to = omega arith;
      pages = pages;
      own = own;
      few = omega arith;
      quota = within_quota;
      chunk = stands.chunk;
    })

-- ---- where the gate stopped a claim

pub fits_same : (plan : FlusherPlan) (kit : Kit) (old new : Seats) → Fits plan kit old → OnlyCpu old new → new.cpu ≡ old.cpu → Fits plan kit new
fits_same plan kit old new fits only cpu = still_fits plan kit old new fits (record {
  cpu = cpu;
  share = subst (λ (s : share.Seats). share.IsSeatOf kit.shares s) (sym only.share) fits.seats_are.share;
  est = subst (λ (s : est.Seats). est.IsPassOf kit.published s) (sym only.est) fits.seats_are.est;
  each_context = ap (λ (s : est.Seats). length s.known) only.est;
  publishes = λ context. ap (λ (s : est.Seats). (est.known_of context s).publishes) only.est;
  queue = subst (λ (s : queue.Seats). queue.IsPassOf kit.queues s) (sym only.queue) fits.seats_are.queue;
  each_device = ap (λ (s : queue.Seats). length s.known) only.queue;
})

pub halted : (plan : FlusherPlan) (kit : Kit) (said : ℕ → Bool → Type 0) (old new : Seats) (page : ℕ) → Fits plan kit old → OnlyCpu old new → Halts (setting kit.throttle.layout) plan.cpu page said old.cpu new.cpu → GivesQuiet plan kit old new
halted plan kit said old new page fits only (before_its_look same) =
    let fits' = fits_same plan kit old new fits only same in
    record {
      goes = λ told work log written. goes_apart plan kit old new work work same only.share only.est (only_same plan.device old.queue new.queue only.queue) fits' (kept_same plan old work) told log written;
      fits = fits';
      debts = debts_same plan old new same;
    }
halted plan kit said old new page fits only (after_its_look n claimable change logs asked) = looks_at plan kit old new page n fits only claimable change

-- where it stood then
pub stops_at : (plan : FlusherPlan) (kit : Kit) (said : ℕ → Bool → Type 0) (page : ℕ) (old new : Seated) → Halts (setting kit.throttle.layout) plan.cpu page said old new
    → (new ≡ old) ⊎ ((word : ℕ) × (is_claimable (bits_at word page) ≡ true) × Changes plan.cpu (looked_at (setting kit.throttle.layout) plan.cpu page word) old new)
stops_at plan kit said page old new (before_its_look same) = inl same
stops_at plan kit said page old new (after_its_look n claimable change logs asked) = inr (n, claimable, change)

-- ---- a page passed

abbrev Own : (plan : FlusherPlan) (inode page : ℕ) → Type 0
Own plan inode page = ((inode_at plan inode).first ≤ page) × (page < end_of plan inode)

pub claimed_stands : (plan : FlusherPlan) (was is : FlusherWork) (scan next : Scan) → IsPlan plan → IsScan plan was.batch.items scan → scan.passed < scan.pages → length was.batch.items < scan.quota → is.phase ≡ Scanning next
    → next ≡ record scan { passed = scan.passed + 1; noted = next.noted } → is.faults ≡ was.faults → is.batch.items ≡ was.batch.items ++ page_of scan ∷ [] → HasPassed plan scan next was is
claimed_stands plan was is scan next plan_is stands within below at next_is faults batch =
    let its = page_own plan was.batch.items scan stands in
    let less : page_of scan < plan.pages = (let low = plan_is.pages scan.inode stands.inode.there in let high = its.1 in omega arith) in
    let long = length-append was.batch.items (page_of scan ∷ []) in
    let many = ap (λ (l : List ℕ). length l) batch in
    record {
      phase = at;
      stands = passed_scan plan was.batch.items is.batch.items scan next stands within next_is
          (subst (λ (l : List ℕ). All (λ p. p < plan.pages) l) (sym batch) (All-append (λ p. p < plan.pages) was.batch.items (page_of scan ∷ []) stands.pages (All-cons (λ p. p < plan.pages) (page_of scan) [] less (All-nil (λ p. p < plan.pages)))))
          (subst (λ (l : List ℕ). AreOf plan scan.inode l) (sym batch) (All-append (Own plan scan.inode) was.batch.items (page_of scan ∷ []) stands.own (All-cons (Own plan scan.inode) (page_of scan) [] its (All-nil (Own plan scan.inode))))) (omega arith) (omega arith);
      next_is = next_is;
      faults = faults;
      batch = inl batch;
    }

pub passed_stands : (plan : FlusherPlan) (was is : FlusherWork) (scan next : Scan) → IsScan plan was.batch.items scan → scan.passed < scan.pages → is.phase ≡ Scanning next
    → next ≡ record scan { passed = scan.passed + 1; noted = next.noted } → is.faults ≡ was.faults → is.batch.items ≡ was.batch.items → HasPassed plan scan next was is
passed_stands plan was is scan next stands within at next_is faults batch =
    let many = ap (λ (l : List ℕ). length l) batch in
    let most = stands.quota in
    record {
      phase = at;
      stands = passed_scan plan was.batch.items is.batch.items scan next stands within next_is (subst (λ (l : List ℕ). All (λ p. p < plan.pages) l) (sym batch) stands.pages)
          (subst (λ (l : List ℕ). AreOf plan scan.inode l) (sym batch) stands.own) (omega arith) (omega arith);
      next_is = next_is;
      faults = faults;
      batch = inr batch;
    }
