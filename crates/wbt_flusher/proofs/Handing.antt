-- A batch goes to the disk, or a fault stands in its place.
use Rattle.std.proofs.Common.{get_or, ◌≡◌, ℕ, ◌+◌, ◌<◌, ◌≤◌, Bool, false, cond, drop, eqb, List, [], ◌∷◌, length, Option, Some, Contains, inr, sym, refl, ap, ◌∙◌, subst, arith, eq-eqb}
use Rattle.std.proofs.lemmas.Bool.{cond-true, cond_both, lt-leb}
use Rattle.std.specs.Prelude.{nat_le}
use Rattle.wbt_flusher.proofs.Common.{times_in, Grows, Trace, CpuJournal, MOST_FAULTS, Scan, with_entry, Flew, logged_entry, Kit, Seats, record_of, only_same, Went, Moments, Fits, sight, phase_by, pages_by, landed_in, first_tallies, OwesRescan, OwesMark, list_by, AreOf, IsScan, IsFlight, IsInode, IsPlan, IsPlanOf, context_of, pairs_of}
use Rattle.wbt_rules.proofs.Quotas.{within_less}
use Rattle.wbt_journal.specs.Flights as flights
use Rattle.wbt_journal.specs.Told.{batch, fault}
use Rattle.wbt_journal.specs.declared.entry.Entry.TheVariants as entry
use Rattle.wbt_flusher.specs.Turns.{IsPaid, IsReturn, OwesNoMore}
use Rattle.wbt_flusher.specs.declared.plan.FlusherPlan.{FlusherPlan}
use Rattle.wbt_flusher.specs.declared.work.Flight.{Flight}
use Rattle.wbt_flusher.specs.declared.work.Phase.{Phase}
use Rattle.wbt_flusher.specs.declared.work.Return.{Return}
use Rattle.wbt_flusher.specs.declared.work.Phase.TheVariants.{Scanning, Flying, Returning, Failed}
use Rattle.wbt_rules.specs.Flusher.{IsWithinChunk, chunk_at}
use Rattle.wbt_flusher.specs.declared.work.FlusherWork.{FlusherWork}
use Rattle.wbt_flusher.proofs.Acting.{did_act, flew_as, told_as}
use Rattle.wbt_flusher.proofs.Completing.{chunk_is, own_flusher}
use Rattle.wbt_flusher.proofs.Going.{keeps_same}
use Rattle.wbt_flusher.proofs.Noting.{grows_none}
use Rattle.wbt_flusher.proofs.Owing.{owing_stays}
use Rattle.wbt_flusher.specs.declared.tally.Tallies.{Tallies}
use Rattle.wbt_flusher.proofs.Untold.{batch_grows, fault_grows}
use Rattle.wbt_flusher.proofs.Waiting.{list_kept}

hands : (flusher : ℕ) (pages : List ℕ) (now until faults : ℕ) → 0 < length pages
    → Flew flusher (told_as (flights.scanning pages) faults) (batch flusher (length pages) now until ∷ []) (told_as (flights.emptied pages) faults)
hands flusher pages now until faults some = record {
  allowed = ((λ own. ((omega arith), refl)), tt);
  reached = cond-true (eqb flusher flusher) (told_as (flights.emptied pages) faults) (told_as (flights.scanning pages) faults) (eq-eqb flusher flusher refl);
}

-- a fault is told, with the flusher as it is then
fault_told : (flusher : ℕ) (pages : List ℕ) (faults : ℕ) (is : flights.ToldFlusher) → 0 < length pages → flights.faulted_with (faults + 1) pages ≡ is
    → Flew flusher (told_as (flights.scanning pages) faults) (fault flusher (length pages) ∷ []) is
fault_told flusher pages faults is some becomes = record {
  allowed = ((λ own. ((omega arith), refl)), tt);
  reached = cond-true (eqb flusher flusher) (flights.faulted_with (faults + 1) pages) (told_as (flights.scanning pages) faults) (eq-eqb flusher flusher refl) ∙ becomes;
}

-- with the last fault that it may have it has failed
fails : (pages : List ℕ) (faults is : ℕ) → faults + 1 ≡ MOST_FAULTS → is ≡ MOST_FAULTS → flights.faulted_with (faults + 1) pages ≡ told_as flights.failed is
fails pages faults is last now = ap (λ (n : ℕ). flights.faulted_with n pages) last ∙ ap (told_as flights.failed) (sym now)

-- and before that it gives its batch back
gives_up : (pages : List ℕ) (faults is : ℕ) → faults + 1 < MOST_FAULTS → is ≡ faults + 1 → flights.faulted_with (faults + 1) pages ≡ told_as (flights.returned pages) is
gives_up pages faults is not_last now =
    let more : nat_le MOST_FAULTS (faults + 1) ≡ false = lt-leb MOST_FAULTS (faults + 1) not_last in
    ap (λ (b : Bool). told_as (cond b flights.failed (flights.returned pages)) (faults + 1)) more ∙ ap (told_as (flights.returned pages)) (sym now)

module _ (plan : FlusherPlan) (kit : Kit) (told : Moments) (seats : Seats) (before : CpuJournal) (was is : FlusherWork) (scan : Scan)
    (fits : Fits plan kit seats) (paid : IsPaid plan scan seats) (was_at : was.phase ≡ Scanning scan) (stands : IsScan plan was.batch.items scan)
    (some : 0 < length was.batch.items) (batch_same : is.batch.items ≡ was.batch.items) (wheel : is.wheel ≡ was.wheel) (less : OwesNoMore plan was is) where
  rescans_paid : (page : ℕ) → 1 ≤ times_in page (record_of plan.cpu seats.cpu.cpus).owed_rescans → OwesRescan plan was.phase page → ⊥
  rescans_paid page owes own = paid.rescans page owes (subst (λ (p : Phase). OwesRescan plan p page) was_at own)

  marks_paid : (inode : ℕ) → 1 ≤ times_in inode (record_of plan.cpu seats.cpu.cpus).owed_marks → OwesMark was.phase inode → ⊥
  marks_paid inode owes own = paid.marks inode owes (subst (λ (p : Phase). OwesMark p inode) was_at own)

  phase_was : phase_by was.batch.items was.phase ≡ flights.scanning was.batch.items
  phase_was = ap (phase_by was.batch.items) was_at

  -- the batch is within the scan's quota, which is within what the device's line says
  meets_chunk : (trace : Trace) → IsPlanOf trace plan → IsWithinChunk (chunk_at trace plan.flusher) (length was.batch.items)
  meets_chunk trace is =
      subst (λ (chunk : Option ℕ). IsWithinChunk chunk (length was.batch.items)) (sym (chunk_is trace plan is)) (within_less plan.shares.chunk (length was.batch.items) scan.quota stands.quota stands.chunk)

  pub flies_off : (flight : Flight) (now until : ℕ) (written written' : Option ℕ) → is.phase ≡ Flying flight → is.faults ≡ was.faults → flight.landed ≡ 0 → Contains told.batches now
      → Grows (Some (length was.batch.items)) written written'
      → Went plan kit told (sight was seats before written) (sight is seats (with_entry (entry.Batch plan.flusher (length was.batch.items) now until) before) written')
  flies_off flight now until written written' is_at faults first has grows =
      let e = batch plan.flusher (length was.batch.items) now until in
      let behind = with_entry (entry.Batch plan.flusher (length was.batch.items) now until) before in
      let s = sight was seats before written in
      let t = sight is seats behind written' in
      let left : phase_by is.batch.items is.phase ≡ flights.emptied was.batch.items = ap (phase_by is.batch.items) is_at ∙ ap (λ (n : ℕ). phase_by is.batch.items (Flying (record flight { landed = n }))) first ∙ ap flights.emptied batch_same in
      let pages : pages_by is.batch.items is.phase ≡ pages_by was.batch.items was.phase =
      ap (pages_by is.batch.items) is_at ∙ ap (λ (n : ℕ). pages_by is.batch.items (Flying (record flight { landed = n }))) first ∙ batch_same ∙ sym (ap (pages_by was.batch.items) was_at) in
      record {
        did = did_act plan kit told s t (record {
          added = e ∷ [];
          of_flusher = (record { no_write = refl; no_check = refl; flight = refl; wait = tt }, tt);
          plain = (record { no_check = refl; no_estimate = refl }, tt);
          adds_none = λ domain context. refl;
          logged = logged_entry (entry.Batch plan.flusher (length was.batch.items) now until) before refl;
          own = λ trace work. (record { write = tt; fold = tt; check = tt; flight = record { own = own_flusher trace plan kit work; page = tt; chunk = meets_chunk trace work.plan_is }; share = tt; estimate = tt; wait = tt }, tt);
          moments = (record { batch = has; estimate = tt; wait = tt }, tt);
          pages = subst (λ (n : ℕ). Grows (Some n) written written') (let one : length was.batch.items ≡ 0 + length was.batch.items = omega arith in one) grows;
          flew = flew_as plan.flusher (e ∷ []) s t (flights.scanning was.batch.items) (flights.emptied was.batch.items) phase_was left faults (hands plan.flusher was.batch.items now until was.faults some);
          waited = λ trace work. list_kept trace plan.flusher (e ∷ []) (list_by was) (list_by is) (refl, tt) (ap pairs_of wheel);
          apart = record { others = λ c r other has. has; no_more = λ c r other has. has; timer = refl; layout = refl };
          share = refl;
          est = refl;
          on_record = record {
            grew = batch_grows plan.flusher (length was.batch.items) now until (record_of plan.cpu seats.cpu.cpus);
            writers = refl;
            held = λ page. let same = ap (times_in page) pages in omega arith;
            rescans = λ page owes. inr (owes, rescans_paid page owes);
            marks = λ inode owes. inr (owes, marks_paid inode owes);
            completed = refl;
            owing_is = λ domain there. let l = less.domains domain there in omega arith;
            total_is = λ context there. let l = less.totals context there in omega arith;
          };
        });
        fits = fits;
        cpus = keeps_same seats.cpu.cpus seats.cpu.cpus refl;
        queue = only_same plan.device seats.queue seats.queue refl;
      }

  -- the disk failed, and the flusher's phase is this one
  fault_off : (written : Option ℕ) (phase : flights.ToldPhase) → phase_by is.batch.items is.phase ≡ phase → flights.faulted_with (was.faults + 1) was.batch.items ≡ told_as phase is.faults
      → pages_by is.batch.items is.phase ≡ was.batch.items
      → Went plan kit told (sight was seats before written) (sight is seats (with_entry (entry.Fault plan.flusher (length was.batch.items)) before) written)
  fault_off written phase is_at becomes pages_are =
      let e = fault plan.flusher (length was.batch.items) in
      let behind = with_entry (entry.Fault plan.flusher (length was.batch.items)) before in
      let s = sight was seats before written in
      let t = sight is seats behind written in
      let pages : pages_by is.batch.items is.phase ≡ pages_by was.batch.items was.phase = pages_are ∙ sym (ap (pages_by was.batch.items) was_at) in
      record {
        did = did_act plan kit told s t (record {
          added = e ∷ [];
          of_flusher = (record { no_write = refl; no_check = refl; flight = refl; wait = tt }, tt);
          plain = (record { no_check = refl; no_estimate = refl }, tt);
          adds_none = λ domain context. refl;
          logged = logged_entry (entry.Fault plan.flusher (length was.batch.items)) before refl;
          own = λ trace work. (record { write = tt; fold = tt; check = tt; flight = record { own = own_flusher trace plan kit work; page = tt; chunk = meets_chunk trace work.plan_is }; share = tt; estimate = tt; wait = tt }, tt);
          moments = (record { batch = tt; estimate = tt; wait = tt }, tt);
          pages = grows_none written;
          flew = subst (λ (z : flights.ToldFlusher × flights.ToldFlusher). Flew plan.flusher z.0 (e ∷ []) z.1)
              (λ i. (told_as (sym phase_was i) was.faults, told_as (sym is_at i) is.faults)) (fault_told plan.flusher was.batch.items was.faults (told_as phase is.faults) some becomes);
          waited = λ trace work. list_kept trace plan.flusher (e ∷ []) (list_by was) (list_by is) (refl, tt) (ap pairs_of wheel);
          apart = record { others = λ c r other has. has; no_more = λ c r other has. has; timer = refl; layout = refl };
          share = refl;
          est = refl;
          on_record = record {
            grew = fault_grows plan.flusher (length was.batch.items) (record_of plan.cpu seats.cpu.cpus);
            writers = refl;
            held = λ page. let same = ap (times_in page) pages in omega arith;
            rescans = λ page owes. inr (owes, rescans_paid page owes);
            marks = λ inode owes. inr (owes, marks_paid inode owes);
            completed = refl;
            owing_is = λ domain there. let l = less.domains domain there in omega arith;
            total_is = λ context there. let l = less.totals context there in omega arith;
          };
        });
        fits = fits;
        cpus = keeps_same seats.cpu.cpus seats.cpu.cpus refl;
        queue = only_same plan.device seats.queue seats.queue refl;
      }

  pub fails_off : (written : Option ℕ) → is.phase ≡ Failed → was.faults + 1 ≡ MOST_FAULTS → is.faults ≡ MOST_FAULTS
      → Went plan kit told (sight was seats before written) (sight is seats (with_entry (entry.Fault plan.flusher (length was.batch.items)) before) written)
  fails_off written is_at last faults =
      fault_off written flights.failed (ap (phase_by is.batch.items) is_at) (fails was.batch.items was.faults is.faults last faults) (ap (pages_by is.batch.items) is_at ∙ batch_same)

  pub gives_up_off : (written : Option ℕ) (giving : Return) → is.phase ≡ Returning giving → giving.returned ≡ 0 → was.faults + 1 < MOST_FAULTS → is.faults ≡ was.faults + 1
      → Went plan kit told (sight was seats before written) (sight is seats (with_entry (entry.Fault plan.flusher (length was.batch.items)) before) written)
  gives_up_off written giving is_at first not_last faults =
      let at_first = ap (λ (n : ℕ). drop n is.batch.items) first ∙ batch_same in
      fault_off written (flights.returned was.batch.items) (ap (phase_by is.batch.items) is_at ∙ ap flights.returned at_first)
      (gives_up was.batch.items was.faults is.faults not_last faults) (ap (pages_by is.batch.items) is_at ∙ at_first)

-- a scan's batch has no more pages than there are
pub scan_few : (plan : FlusherPlan) (scan : Scan) (claims : List ℕ) → IsPlan plan → IsScan plan claims scan → length claims ≤ plan.pages
scan_few plan scan claims is stands = let a = stands.few in let b = stands.to in let p = stands.pages_are in let c = is.pages scan.inode stands.inode.there in omega arith

-- and flies off as a flight
pub takes_off : (plan : FlusherPlan) (scan : Scan) (flight : Flight) (claims : List ℕ) → IsPlan plan → IsScan plan claims scan → 0 < length claims → flight.inode ≡ scan.inode → flight.landed ≡ 0 → IsFlight plan claims flight
takes_off plan scan flight claims is stands some inode first = record {
  inode = subst (IsInode plan) (sym inode) stands.inode;
  some_left = omega arith;
  pages = stands.pages;
  few = scan_few plan scan claims is stands;
}

-- or is given back from its first page on
pub turns_back : (plan : FlusherPlan) (scan : Scan) (giving : Return) (claims : List ℕ) → IsPlan plan → IsScan plan claims scan → 0 < length claims → giving.inode ≡ scan.inode → giving.returned ≡ 0 → IsReturn plan claims giving
turns_back plan scan giving claims is stands some inode first = record {
  inode = subst (IsInode plan) (sym inode) stands.inode;
  some_left = omega arith;
  own = subst (λ (i : ℕ). AreOf plan i claims) (sym inode) stands.own;
  few = scan_few plan scan claims is stands;
}

-- what is owed of completed pages where none is
pub owes_same : (plan : FlusherPlan) (was is : FlusherWork) → is.tallies.items ≡ was.tallies.items → ((k : ℕ) → landed_in plan is.phase k ≡ landed_in plan was.phase k) → OwesNoMore plan was is
owes_same plan was is tallies landed = record {
  domains = λ domain there. let same = owing_stays plan was is tallies landed domain in omega arith;
  totals = λ context there. let a = ap (λ (l : List Tallies). (get_or l context first_tallies).written) tallies in let b = landed context in omega arith;
}

pub owes_more : (plan : FlusherPlan) (was mid is : FlusherWork) → OwesNoMore plan was mid → OwesNoMore plan mid is → OwesNoMore plan was is
owes_more plan was mid is p q = record {
  domains = λ domain there. let a = p.domains domain there in let b = q.domains domain there in omega arith;
  totals = λ context there. let a = p.totals context there in let b = q.totals context there in omega arith;
}

none_landed : (plan : FlusherPlan) (flight : Flight) (k : ℕ) → flight.landed ≡ 0 → landed_in plan (Flying flight) k ≡ 0
none_landed plan flight k first = cond_both (eqb k (context_of plan flight.inode)) flight.landed 0 (λ (n : ℕ). n ≡ 0) (λ is. first) (λ not. refl)

pub lands_none_yet : (plan : FlusherPlan) (was is : FlusherWork) (scan : Scan) (flight : Flight) → was.phase ≡ Scanning scan → is.phase ≡ Flying flight → flight.landed ≡ 0 → (k : ℕ) → landed_in plan is.phase k ≡ landed_in plan was.phase k
lands_none_yet plan was is scan flight was_at is_at first k = ap (λ (p : Phase). landed_in plan p k) is_at ∙ none_landed plan flight k first ∙ sym (ap (λ (p : Phase). landed_in plan p k) was_at)

pub lands_nothing : (plan : FlusherPlan) (was is : FlusherWork) (scan : Scan) → was.phase ≡ Scanning scan → is.phase ≡ Failed → (k : ℕ) → landed_in plan is.phase k ≡ landed_in plan was.phase k
lands_nothing plan was is scan was_at is_at k = ap (λ (p : Phase). landed_in plan p k) is_at ∙ sym (ap (λ (p : Phase). landed_in plan p k) was_at)

pub returns_nothing : (plan : FlusherPlan) (was is : FlusherWork) (scan : Scan) (giving : Return) → was.phase ≡ Scanning scan → is.phase ≡ Returning giving → (k : ℕ) → landed_in plan is.phase k ≡ landed_in plan was.phase k
returns_nothing plan was is scan giving was_at is_at k = ap (λ (p : Phase). landed_in plan p k) is_at ∙ sym (ap (λ (p : Phase). landed_in plan p k) was_at)
