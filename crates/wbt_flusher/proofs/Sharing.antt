-- What calls on shares did.
use Rattle.std.proofs.Common.{◌≡◌, ◌≢◌, ℕ, suc, ◌+◌, ◌-◌, ◌*◌, ◌^◌, ◌<◌, ◌≤◌, cond, eqb, List, [], ◌∷◌, length, set, Option, Some, None, sym, refl, ap, ◌∙◌, subst, arith, eq-eqb, ne_eqb, get_or-set_same, get_or-set_other}
use Rattle.std.specs.Prelude.{slice_set, slice_index_or}
use Rattle.std.proofs.lemmas.Bool.{cond-true, cond-false, lt-ltb}
use mathlib.Core.Logic.{dite}
use native.Mathlib.Decide.{ℕ_discrete}
use Rattle.wbt_flusher.proofs.Common.{times_in, begun, added_at, Note, no_seat, room_of, CpuRecord, known_of, Cpus, Context, Trace, domains, contexts, share, CpuJournal, with_entry, Longer, SharesGrew, Flew, FliesInTurn, flusher_after, Worker, by_nothing, longer_none, logged_nothing, logged_entry, walked_none, walked_silent, Kit, Seats, only_same, GoesQuiet, GoesKept, Goes, AreCounted, Fits, HasRooms, Suits, IsWork, sight, flusher_in, phase_by, pages_by, notes_by, OwesRescan, OwesMark, tally_in, with_tally, tallies_of, all_completions, held_cpus, owing, owing_total, list_by, HasLists, OnlyTallies, pairs_of}
use Rattle.wbt_kit.proofs.Common.{KeepsStakes, stakes_in, IsSeatOf, room_in, TotalSeated}
use Rattle.wbt_fraction.specs.Sums.{total as weigh}
use Rattle.wbt_fraction.specs.Seat.{Seated, Adds, Missed}
use Rattle.wbt_fraction.specs.Several.{KeepsRooms, TakesRoom}
use Rattle.wbt_fraction.specs.Totals.{lowered}
use Rattle.wbt_fraction.specs.declared.domain.words.Again.{Again}
use Rattle.wbt_published.specs.Passes as est
use Rattle.wbt_queue.specs.Passes as queue
use Rattle.wbt_table.specs.Seat as table
use Rattle.wbt_journal.specs.Flights as flights
use Rattle.wbt_journal.specs.Reads.{IsShare}
use Rattle.wbt_journal.specs.declared.entry.Entry.TheVariants as entry
use Rattle.wbt_run_laws.specs.Calls.{AreFound, NotesGrew}
use Rattle.wbt_run_laws.proofs.Calling.{add_is_noted}
use Rattle.wbt_run_laws.proofs.Moving.{plain_estimates}
use Rattle.wbt_flusher.specs.Turns.{IsPart, OnlyShare}
use Rattle.wbt_flusher.specs.declared.plan.FlusherPlan.{FlusherPlan}
use Rattle.wbt_flusher.specs.declared.tally.Tally.{Tally}
use Rattle.wbt_flusher.proofs.Tallying.{own_tally, so_many, inside_part}
use Rattle.wbt_flusher.specs.declared.work.Phase.{Phase}
use Rattle.wbt_flusher.specs.declared.work.FlusherWork.{FlusherWork}
use Rattle.wbt_flusher.proofs.Acting.{Kept, same_flusher}
use Rattle.wbt_flusher.proofs.Adding.{shares_told, told_here, told_elsewhere, in_seats}
use Rattle.wbt_flusher.proofs.Going.{keeps_same}
use Rattle.wbt_flusher.proofs.Keeping.{still_fits}
use Rattle.wbt_flusher.proofs.Noted.{did_noted}
use Rattle.wbt_flusher.proofs.Noting.{grows_none, shares_by}
use Rattle.wbt_flusher.proofs.Untold.{share_grows}
use Rattle.wbt_flusher.proofs.Waiting.{list_kept}

-- ---- rooms

fewer_counted : (x : Option CpuRecord) (cpus : Cpus) → AreCounted (x ∷ cpus) → AreCounted cpus
fewer_counted x cpus counted = record { each = λ c r has. counted.each (suc c) r has; few = λ c r has. counted.few (suc c) r has }

completed_few : (cpus : Cpus) → AreCounted cpus → all_completions cpus ≤ held_cpus cpus * 2 ^ 33
completed_few [] counted = omega arith
completed_few (None ∷ cpus) counted = completed_few cpus (fewer_counted None cpus counted)
completed_few (Some r ∷ cpus) counted =
    let rest = completed_few cpus (fewer_counted (Some r) cpus counted) in
    let each = counted.each 0 r refl in
    let few : r.page_steps ≤ 2 ^ 33 = counted.few 0 r refl in omega arith

-- what is still to be added has room
pub room_for : (plan : FlusherPlan) (work : FlusherWork) (seats : Seats) (domain : ℕ) → HasRooms plan work seats → domain < plan.domains → owing plan domain work ≤ room_in domain seats.share.domains
room_for plan work seats domain rooms there =
    let had = rooms.rooms domain there in
    let few = completed_few seats.cpu.cpus rooms.counted in omega arith

pub total_room_for : (plan : FlusherPlan) (work : FlusherWork) (seats : Seats) (context : ℕ) → HasRooms plan work seats → context < length plan.contexts → owing_total plan context work ≤ room_of context seats.share.totals.rooms
total_room_for plan work seats context rooms there =
    let had = rooms.totals context there in
    let few = completed_few seats.cpu.cpus rooms.counted in omega arith

-- ---- calls

-- seats of which shares alone changed fit
pub fits_share : (plan : FlusherPlan) (kit : Kit) (old new : Seats) → Fits plan kit old → OnlyShare old new → IsSeatOf kit.shares new.share → Fits plan kit new
fits_share plan kit old new fits only seat = still_fits plan kit old new fits (record {
  cpu = only.cpu;
  share = seat;
  est = subst (λ (s : est.Seats). est.IsPassOf kit.published s) (sym only.est) fits.seats_are.est;
  each_context = ap (λ (s : est.Seats). length s.known) only.est;
  publishes = λ context. ap (λ (s : est.Seats). (known_of context s).publishes) only.est;
  queue = subst (λ (s : queue.Seats). queue.IsPassOf kit.queues s) (sym only.queue) fits.seats_are.queue;
  each_device = ap (λ (s : queue.Seats). length s.known) only.queue;
})

module _ (plan : FlusherPlan) (kit : Kit) (old new : Seats) (was is : FlusherWork) (domain : ℕ) (mid : Seated)
    (suits : Suits plan kit) (fits : Fits plan kit old) (only : OnlyShare old new) (seat : IsSeatOf kit.shares new.share) (there : domain < plan.domains)
    (totals : new.share.totals ≡ old.share.totals) (stakes : KeepsStakes old.share.domains new.share.domains) (domains_are : new.share.domains ≡ slice_set old.share.domains domain mid) where
  in_old : domain < length old.share.domains
  in_old = in_seats kit.shares.domains old.share.domains domain fits.seats_are.share.0 (let same = suits.shared_domains in omega arith)

  room_same : (context : ℕ) → room_of context new.share.totals.rooms ≡ room_of context old.share.totals.rooms
  room_same context = ap (λ (t : TotalSeated). room_of context t.rooms) totals

  -- a call that noted loads alone
  pub looked_goes : NotesGrew (λ context. 0) (slice_index_or old.share.domains domain no_seat).notes mid.notes → KeepsRooms old.share.domains new.share.domains → Kept plan old was is → GoesKept plan kit old new was is
  looked_goes grew rooms kept told log written =
      let s = sight was old log written in
      let t = sight is new log written in
      record {
        did = did_noted plan kit told s t (record {
          added = [];
          of_flusher = tt;
          logged = logged_nothing log;
          own = λ trace work. tt;
          moments = tt;
          pages = grows_none written;
          flew = subst (λ (p : flights.ToldFlusher). Flew plan.flusher (flusher_in s) [] p) (sym (same_flusher was is kept.phase kept.faults)) (walked_none (FliesInTurn plan.flusher) (flusher_after plan.flusher) (flusher_in s));
          waited = λ trace work. list_kept trace plan.flusher [] (list_by was) (list_by is) tt kept.waits;
          cpu = only.cpu;
          grew = by_nothing;
          shares = λ base. subst (λ (e : est.Seats). SharesGrew plan.cpu [] (notes_by base old.share old.est) (notes_by base new.share e)) (sym only.est)
              (shares_told plan.flusher plan.cpu base old.share new.share old.est domain mid [] (λ context. 0) in_old domains_are tt grew (λ context. refl) (λ d other context. refl));
          estimates = λ base. plain_estimates kit.published.firsts plan.cpu [] (notes_by base old.share old.est) (notes_by base new.share new.est) tt (λ context. ap (known_of context) only.est);
          held = kept.held;
          rescans = kept.rescans;
          marks = kept.marks;
          rooms = λ d is. let same = rooms d in let less = kept.owing_is d is in omega arith;
          totals = λ k is. let same = room_same k in let less = kept.total_is k is in omega arith;
          stakes = stakes;
          total_stakes = ap (λ (t : TotalSeated). t.stakes) totals;
        });
        fits = fits_share plan kit old new fits only seat;
        cpus = keeps_same old.cpu.cpus new.cpu.cpus (ap (λ (c : table.Seated). c.cpus) only.cpu);
        queue = only_same plan.device old.queue new.queue only.queue;
      }

  -- an addition, which is told
  pub added_goes : (before : CpuJournal) (context n : ℕ) → context < length plan.contexts → Adds context n (slice_index_or old.share.domains domain no_seat) mid
      → TakesRoom domain n old.share.domains new.share.domains → n ≤ room_in domain old.share.domains
      → is.phase ≡ was.phase → is.batch.items ≡ was.batch.items → is.faults ≡ was.faults → is.wheel ≡ was.wheel
      → owing plan domain is + n ≡ owing plan domain was → ((d : ℕ) → owing plan d is ≤ owing plan d was) → ((k : ℕ) → owing_total plan k is ≡ owing_total plan k was)
      → Goes plan kit old new before (with_entry (entry.Share domain context n) before) was is
  added_goes before context n in_contexts adds takes fits_room phase batch faults wheel here others totals_is told written =
      let e = share domain context n in
      let behind = with_entry (entry.Share domain context n) before in
      let s = sight was old before written in
      let t = sight is new behind written in
      record {
        did = did_noted plan kit told s t (record {
          added = e ∷ [];
          of_flusher = (record { no_write = refl; no_check = refl; flight = tt; wait = tt }, tt);
          logged = logged_entry (entry.Share domain context n) before refl;
          own = λ trace work. (record { write = tt; fold = tt; check = tt; flight = tt; share = is_share trace work; estimate = tt; wait = tt }, tt);
          moments = (record { batch = tt; estimate = tt; wait = tt }, tt);
          pages = grows_none written;
          flew = subst (λ (p : flights.ToldFlusher). Flew plan.flusher (flusher_in s) (e ∷ []) p) (sym (same_flusher was is (same_phase phase batch) faults))
              (walked_silent (FliesInTurn plan.flusher) (flusher_after plan.flusher) (flusher_in s) (e ∷ []) ((λ p. (tt, refl)), tt));
          waited = λ trace work. list_kept trace plan.flusher (e ∷ []) (list_by was) (list_by is) (refl, tt) (ap pairs_of wheel);
          cpu = only.cpu;
          grew = share_grows domain context n;
          shares = λ base. subst (λ (q : est.Seats). SharesGrew plan.cpu (e ∷ []) (notes_by base old.share old.est) (notes_by base new.share q)) (sym only.est)
              (shares_told plan.flusher plan.cpu base old.share new.share old.est domain mid (e ∷ []) (λ of. cond (eqb context of) n 0) in_old domains_are (record { no_write = refl; no_check = refl; flight = tt; wait = tt }, tt)
              (add_is_noted context n (slice_index_or old.share.domains domain no_seat) mid adds) (told_here domain context n) (told_elsewhere domain context n));
          estimates = λ base. plain_estimates kit.published.firsts plan.cpu (e ∷ []) (notes_by base old.share old.est) (notes_by base new.share new.est) (record { no_check = refl; no_estimate = refl }, tt) (λ k. ap (known_of k) only.est);
          held = λ page. ap (times_in page) (same_pages phase batch);
          rescans = λ page owes own. subst (λ (p : Phase). OwesRescan plan p page) (sym phase) own;
          marks = λ inode owes own. subst (λ (p : Phase). OwesMark p inode) (sym phase) own;
          rooms = λ d is. dite (ℕ_discrete d domain) (λ same. at_domain d same) (λ other. at_other d other);
          totals = λ k is. let same = room_same k in let less = totals_is k in omega arith;
          stakes = stakes;
          total_stakes = ap (λ (t : TotalSeated). t.stakes) totals;
        });
        fits = fits_share plan kit old new fits only seat;
        cpus = keeps_same old.cpu.cpus new.cpu.cpus (ap (λ (c : table.Seated). c.cpus) only.cpu);
        queue = only_same plan.device old.queue new.queue only.queue;
      }
    where
      same_phase : is.phase ≡ was.phase → is.batch.items ≡ was.batch.items → phase_by is.batch.items is.phase ≡ phase_by was.batch.items was.phase
      same_phase phase batch = ap (λ (z : List ℕ × Phase). phase_by z.0 z.1) (λ i. (batch i, phase i))

      same_pages : is.phase ≡ was.phase → is.batch.items ≡ was.batch.items → pages_by is.batch.items is.phase ≡ pages_by was.batch.items was.phase
      same_pages phase batch = ap (λ (z : List ℕ × Phase). pages_by z.0 z.1) (λ i. (batch i, phase i))

      is_share : (trace : Trace) → IsWork trace plan kit → IsShare trace domain context
      is_share trace work = record {
        domain_named = lt-ltb domain (domains trace) (let same = work.plan_is.domains_are in omega arith);
        context_named = lt-ltb context (contexts trace) (let same = ap (λ (l : List Context). length l) work.plan_is.contexts in omega arith);
      }

      at_domain : (d : ℕ) → d ≡ domain → room_in d old.share.domains + owing plan d is ≤ room_in d new.share.domains + owing plan d was
      at_domain d same = subst (λ (k : ℕ). room_in k old.share.domains + owing plan k is ≤ room_in k new.share.domains + owing plan k was) (sym same)
          (let room = takes domain in let one : cond (eqb domain domain) n 0 ≡ n = cond-true (eqb domain domain) n 0 (eq-eqb domain domain refl) in omega arith)

      at_other : (d : ℕ) → d ≢ domain → room_in d old.share.domains + owing plan d is ≤ room_in d new.share.domains + owing plan d was
      at_other d other = let room = takes d in let none : cond (eqb d domain) n 0 ≡ 0 = cond-false (eqb d domain) n 0 (ne_eqb d domain other) in let less = others d in omega arith

-- pages were counted into what a context wrote
module _ (plan : FlusherPlan) (kit : Kit) (old new : Seats) (was is : FlusherWork) (context n : ℕ)
    (suits : Suits plan kit) (fits : Fits plan kit old) (only : OnlyShare old new) (seat : IsSeatOf kit.shares new.share) (there : context < length plan.contexts)
    (domains_same : new.share.domains ≡ old.share.domains) (stakes : new.share.totals.stakes ≡ old.share.totals.stakes) (rooms_are : new.share.totals.rooms ≡ lowered context n old.share.totals.rooms) (room : n ≤ room_of context old.share.totals.rooms)
    (phase : is.phase ≡ was.phase) (batch : is.batch.items ≡ was.batch.items) (faults : is.faults ≡ was.faults) (wheel : is.wheel ≡ was.wheel)
    (owing_is : (d : ℕ) → owing plan d is ≤ owing plan d was) (here : owing_total plan context is + n ≡ owing_total plan context was)
    (others : (k : ℕ) → k ≢ context → owing_total plan k is ≡ owing_total plan k was) where
  in_rooms : context < length old.share.totals.rooms
  in_rooms = let a = fits.seats_are.share.2 in let b = suits.totals in let c = suits.homes_are in omega arith

  room_now : (k : ℕ) → room_of k old.share.totals.rooms + owing_total plan k is ≤ room_of k new.share.totals.rooms + owing_total plan k was
  room_now k = dite (ℕ_discrete k context)
      (λ same. subst (λ (j : ℕ). room_of j old.share.totals.rooms + owing_total plan j is ≤ room_of j new.share.totals.rooms + owing_total plan j was) (sym same)
      (let at = ap (room_of context) rooms_are ∙ get_or-set_same old.share.totals.rooms context (room_of context old.share.totals.rooms - n) 0 in_rooms in omega arith))
      (λ other. let at = ap (room_of k) rooms_are ∙ get_or-set_other old.share.totals.rooms context k (room_of context old.share.totals.rooms - n) 0 other in let same = others k other in omega arith)

  pub counted_goes : GoesKept plan kit old new was is
  counted_goes told log written =
      let s = sight was old log written in
      let t = sight is new log written in
      record {
        did = did_noted plan kit told s t (record {
          added = [];
          of_flusher = tt;
          logged = logged_nothing log;
          own = λ trace work. tt;
          moments = tt;
          pages = grows_none written;
          flew = subst (λ (p : flights.ToldFlusher). Flew plan.flusher (flusher_in s) [] p) (sym (same_flusher was is (ap (λ (z : List ℕ × Phase). phase_by z.0 z.1) (λ i. (batch i, phase i))) faults))
              (walked_none (FliesInTurn plan.flusher) (flusher_after plan.flusher) (flusher_in s));
          waited = λ trace work. list_kept trace plan.flusher [] (list_by was) (list_by is) tt (ap pairs_of wheel);
          cpu = only.cpu;
          grew = by_nothing;
          shares = λ base. same_shares base;
          estimates = λ base. plain_estimates kit.published.firsts plan.cpu [] (notes_by base old.share old.est) (notes_by base new.share new.est) tt (λ k. ap (known_of k) only.est);
          held = λ page. ap (times_in page) (ap (λ (z : List ℕ × Phase). pages_by z.0 z.1) (λ i. (batch i, phase i)));
          rescans = λ page owes own. subst (λ (p : Phase). OwesRescan plan p page) (sym phase) own;
          marks = λ inode owes own. subst (λ (p : Phase). OwesMark p inode) (sym phase) own;
          rooms = λ d is. let same = ap (room_in d) domains_same in let less = owing_is d in omega arith;
          totals = λ k is. room_now k;
          stakes = λ domain. ap (stakes_in domain) domains_same;
          total_stakes = stakes;
        });
        fits = fits_share plan kit old new fits only seat;
        cpus = keeps_same old.cpu.cpus new.cpu.cpus (ap (λ (c : table.Seated). c.cpus) only.cpu);
        queue = only_same plan.device old.queue new.queue only.queue;
      }
    where
      same_shares : (base : Worker) → SharesGrew plan.cpu [] (notes_by base old.share old.est) (notes_by base new.share new.est)
      same_shares base =
          let o = notes_by base old.share old.est in
          let m = notes_by base new.share new.est in
          let same : (domain : ℕ) → m.shares domain ≡ o.shares domain = λ domain. ap (λ (l : List Seated). (slice_index_or l domain no_seat).notes) domains_same in
          shares_by plan.flusher plan.cpu [] o m tt (λ domain k. refl)
          (λ domain. subst (λ (l : List Note). Longer (o.shares domain) l) (sym (same domain)) (longer_none (o.shares domain)))
          (λ domain k. let w = ap (weigh (added_at (suc k))) (same domain) in omega arith)
          (λ domain. ap begun (same domain))

-- a look at a written total
pub noted_goes : (plan : FlusherPlan) (kit : Kit) (old new : Seats) → Fits plan kit old → OnlyShare old new → IsSeatOf kit.shares new.share → new.share.domains ≡ old.share.domains
    → new.share.totals.stakes ≡ old.share.totals.stakes → new.share.totals.rooms ≡ old.share.totals.rooms → GoesQuiet plan kit old new
noted_goes plan kit old new fits only seat domains_same stakes rooms_same told work log written =
    let s = sight work old log written in
    let t = sight work new log written in
    record {
      did = did_noted plan kit told s t (record {
        added = [];
        of_flusher = tt;
        logged = logged_nothing log;
        own = λ trace is. tt;
        moments = tt;
        pages = grows_none written;
        flew = walked_none (FliesInTurn plan.flusher) (flusher_after plan.flusher) (flusher_in s);
        waited = λ trace is. list_kept trace plan.flusher [] (list_by work) (list_by work) tt refl;
        cpu = only.cpu;
        grew = by_nothing;
        shares = λ base.
            let o = notes_by base old.share old.est in
            let m = notes_by base new.share new.est in
            let same : (domain : ℕ) → m.shares domain ≡ o.shares domain = λ domain. ap (λ (l : List Seated). (slice_index_or l domain no_seat).notes) domains_same in
            shares_by plan.flusher plan.cpu [] o m tt (λ domain k. refl)
            (λ domain. subst (λ (l : List Note). Longer (o.shares domain) l) (sym (same domain)) (longer_none (o.shares domain)))
            (λ domain k. let w = ap (weigh (added_at (suc k))) (same domain) in omega arith)
            (λ domain. ap begun (same domain));
        estimates = λ base. plain_estimates kit.published.firsts plan.cpu [] (notes_by base old.share old.est) (notes_by base new.share new.est) tt (λ k. ap (known_of k) only.est);
        held = λ page. refl;
        rescans = λ page owes own. own;
        marks = λ inode owes own. own;
        rooms = λ d is. let same = ap (room_in d) domains_same in omega arith;
        totals = λ k is. let same = ap (room_of k) rooms_same in omega arith;
        stakes = λ d. ap (stakes_in d) domains_same;
        total_stakes = stakes;
      });
      fits = fits_share plan kit old new fits only seat;
      cpus = keeps_same old.cpu.cpus new.cpu.cpus (ap (λ (c : table.Seated). c.cpus) only.cpu);
      queue = only_same plan.device old.queue new.queue only.queue;
    }

-- ---- what calls noted

pub missed_found : (part : ℕ) (again : Again) (more : List Note) → Missed part again more → AreFound more
missed_found part again more missed = subst AreFound (sym missed.3) tt

-- what is owed of a context's tally that was added
pub owes_added : (plan : FlusherPlan) (was is : FlusherWork) (context domain n : ℕ) → HasLists plan was → IsPart plan domain context → OnlyTallies was is
    → is.tallies.items ≡ set was.tallies.items context (with_tally domain (record (tally_in domain (tallies_of was context)) { owed = 0 }) (tallies_of was context))
    → n ≡ (tally_in domain (tallies_of was context)).owed → owing plan domain is + n ≡ owing plan domain was
owes_added plan was is context domain n lists part only dropped at =
    let t = tallies_of was context in
    let x : Tally = record (tally_in domain t) { owed = 0 } in
    let own = ap (λ (y : Tally). y.owed) (own_tally domain x t) in
    so_many plan was is context (with_tally domain x t) lists part.there only.phase dropped domain n (inside_part plan domain context part) (omega arith)
