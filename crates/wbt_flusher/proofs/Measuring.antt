-- What calls on estimates did.
use Rattle.std.proofs.Common.{◌≡◌, ◌≢◌, ℕ, suc, ◌+◌, ◌-◌, ◌<◌, ◌≤◌, Bool, cond, eqb, List, [], ◌∷◌, ◌++◌, length, set, Option, Some, None, Contains, sym, refl, ap, ◌∙◌, subst, arith, eq-eqb, ne_eqb, get_or-set_same, get_or-set_other, length-set, length-append}
use Rattle.std.specs.Prelude.{nat_lt, slice_index_or}
use Rattle.std.proofs.lemmas.Bool.{cond-false, cond_both, eqb-true}
use mathlib.Core.Logic.{dite}
use mathlib.Core.Option.{some}
use native.Mathlib.Decide.{ℕ_discrete}
use lib.ListN.{get_elem?}
use Rattle.wbt_estimate.specs.Estimate.{update_of, updated}
use Rattle.wbt_flusher.proofs.Common.{Estimate, begun, added_at, room_of, no_seat, Note, note_of, after_read, first_in, known_of, Known, Context, Each, contexts, added_to, Told, CpuJournal, EstEntry, Longer, SharesGrew, IsOfFlusher, FliesInTurn, flusher_after, Worker, by_nothing, longer_none, logged_nothing, walked_none, walked_silent, walks_silent, Kit, Seats, only_same, GoesQuiet, Went, Moments, Fits, Suits, sight, flusher_in, notes_by, list_by}
use Rattle.wbt_kit.proofs.Common.{opening, estimates_of}
use Rattle.wbt_estimate.specs.declared.estimate.Sample.{Sample}
use Rattle.wbt_fraction.specs.Sums.{total as weigh}
use Rattle.wbt_fraction.specs.Several as share
use Rattle.wbt_published.specs.Known.{first_one}
use Rattle.wbt_published.specs.Passes as est
use Rattle.wbt_published.specs.Publishing.{IsComplete, IsNewest as IsNewestNote}
use Rattle.wbt_published.proofs.Places.{first_version}
use Rattle.wbt_queue.specs.Passes as queue
use Rattle.wbt_table.specs.Seat as table
use Rattle.wbt_journal.specs.Estimates.{Follows, NamesGoOn, names_after}
use Rattle.wbt_journal.specs.Told.{estimated}
use Rattle.wbt_run_laws.specs.Entries.{NoneFalls}
use Rattle.wbt_run_laws.specs.Log.{with_estimate}
use Rattle.wbt_run_laws.specs.Notes.{HasNamed, IsNewest, IsTold}
use Rattle.wbt_run_laws.specs.Walks.{Walks}
use Rattle.wbt_run_laws.proofs.Entering.{others_name_none}
use Rattle.wbt_run_laws.proofs.Logging.{logged_estimate}
use Rattle.wbt_run_laws.proofs.Noting.{told_none}
use Rattle.wbt_flusher.specs.Turns.{OnlyEst}
use Rattle.wbt_flusher.specs.declared.plan.FlusherPlan.{FlusherPlan}
use Rattle.wbt_flusher.specs.declared.work.FlusherWork.{FlusherWork}
use Rattle.wbt_flusher.proofs.Going.{keeps_same}
use Rattle.wbt_flusher.proofs.Keeping.{still_fits}
use Rattle.wbt_flusher.proofs.Noted.{did_noted}
use Rattle.wbt_flusher.proofs.Noting.{grows_none, shares_by}
use Rattle.wbt_flusher.proofs.Untold.{estimate_grows}
use Rattle.std.proofs.lemmas.Bool.{lt-ltb, le-ltb}
use Rattle.wbt_flusher.proofs.Waiting.{list_kept}

-- ---- one context of a pass

module _ (plan : FlusherPlan) (kit : Kit) (old new : Seats) (context : ℕ) (now : Known) (fits : Fits plan kit old) (only : OnlyEst old new)
    (est_is : new.est ≡ record old.est { known = set old.est.known context now }) (there : context < length old.est.known)
    (right : now.publishes ≡ (known_of context old.est).publishes) where
  pub known_here : known_of context new.est ≡ now
  known_here = ap (known_of context) est_is ∙ get_or-set_same old.est.known context now opening there

  known_else : (k : ℕ) → k ≢ context → known_of k new.est ≡ known_of k old.est
  known_else k other = ap (known_of k) est_is ∙ get_or-set_other old.est.known context k now opening other

  each_known : (P : ℕ → Known → Known → Type 0) → P context (known_of context old.est) now → ((k : ℕ) → k ≢ context → P k (known_of k old.est) (known_of k old.est)) → (k : ℕ) → P k (known_of k old.est) (known_of k new.est)
  each_known P here others k = dite (ℕ_discrete k context)
      (λ same. subst (λ (n : ℕ). P n (known_of n old.est) (known_of n new.est)) (sym same) (subst (λ (q : Known). P context (known_of context old.est) q) (sym known_here) here))
      (λ other. subst (λ (q : Known). P k (known_of k old.est) q) (sym (known_else k other)) (others k other))

  pub fits_est : Fits plan kit new
  fits_est = still_fits plan kit old new fits (record {
    cpu = only.cpu;
    share = subst (λ (s : share.Seats). share.IsSeatOf kit.shares s) (sym only.share) fits.seats_are.share;
    est = ap (λ (s : est.Seats). s.names) est_is ∙ fits.seats_are.est;
    each_context = ap (λ (s : est.Seats). length s.known) est_is ∙ length-set old.est.known context now;
    publishes = each_known (λ k a b. b.publishes ≡ a.publishes) right (λ k other. refl);
    queue = subst (λ (s : queue.Seats). queue.IsPassOf kit.queues s) (sym only.queue) fits.seats_are.queue;
    each_device = ap (λ (s : queue.Seats). length s.known) only.queue;
  })

  module _ (told : Moments) (work : FlusherWork) (before behind : CpuJournal) (written : Option ℕ) (added : List Told)
      (each : (k : ℕ) → IsTold (first_in kit.published.firsts k) (estimates_of k added) (known_of k old.est) (known_of k new.est)) where
    same_shares : (base : Worker) (e f : est.Seats) → (of : Each (IsOfFlusher plan.flusher) added) → ((domain k : ℕ) → added_to domain k added ≡ 0) → SharesGrew plan.cpu added (notes_by base old.share e) (notes_by base new.share f)
    same_shares base e f of none =
        let o = notes_by base old.share e in
        let m = notes_by base new.share f in
        let same : (domain : ℕ) → m.shares domain ≡ o.shares domain = λ domain. ap (λ (s : share.Seats). (slice_index_or s.domains domain no_seat).notes) only.share in
        shares_by plan.flusher plan.cpu added o m of (λ domain k. refl)
        (λ domain. subst (λ (l : List Note). Longer (o.shares domain) l) (sym (same domain)) (longer_none (o.shares domain)))
        (λ domain k. let w = ap (weigh (added_at (suc k))) (same domain) in let z = none domain k in omega arith)
        (λ domain. ap begun (same domain))

  falls : (known_of context old.est).seen ≤ now.seen → NoneFalls (λ k. known_of k old.est) (λ k. known_of k new.est)
  falls low = each_known (λ k a b. a.seen ≤ b.seen) low (λ k other. omega arith)

  names_none : NoneFalls (λ k. known_of k old.est) (λ k. known_of k new.est) → Walks HasNamed NamesGoOn names_after (λ k. known_of k old.est) [] (λ k. known_of k new.est)
  names_none none_falls = walks_silent HasNamed NamesGoOn names_after (λ k. known_of k old.est) (λ k. known_of k new.est) [] tt
      (λ s has k version low. has k version (let more = none_falls k in omega arith))

  -- a read
  pub read_goes : (known_of context old.est).seen ≤ now.seen → IsTold (first_in kit.published.firsts context) [] (known_of context old.est) now → GoesQuiet plan kit old new
  read_goes low is_told told work log written =
      let s = sight work old log written in
      let t = sight work new log written in
      record {
        did = did_noted plan kit told s t (record {
          added = [];
          of_flusher = tt;
          logged = logged_nothing log;
          own = λ trace is. tt;
          moments = tt;
          pages = grows_none written;
          flew = walked_none (FliesInTurn plan.flusher) (flusher_after plan.flusher) (flusher_in s);
          waited = λ trace is. list_kept trace plan.flusher [] (list_by work) (list_by work) tt refl;
          cpu = only.cpu;
          grew = by_nothing;
          shares = λ base. same_shares told work log log written [] (each_known (λ k a b. IsTold (first_in kit.published.firsts k) [] a b) is_told (λ k other. told_none (first_in kit.published.firsts k) (known_of k old.est))) base old.est new.est tt (λ domain k. refl);
          estimates = λ base. record {
            each = each_known (λ k a b. IsTold (first_in kit.published.firsts k) [] a b) is_told (λ k other. told_none (first_in kit.published.firsts k) (known_of k old.est));
            names = names_none (falls low);
          };
          held = λ page. refl;
          rescans = λ page owes own. own;
          marks = λ inode owes own. own;
          rooms = λ d is. let same = ap (λ (s : share.Seats). share.room_in d s.domains) only.share in omega arith;
          totals = λ k is. let same = ap (λ (s : share.Seats). room_of k s.totals.rooms) only.share in omega arith;
          stakes = λ d. ap (λ (s : share.Seats). share.stakes_in d s.domains) only.share;
          total_stakes = ap (λ (s : share.Seats). s.totals.stakes) only.share;
        });
        fits = fits_est;
        cpus = keeps_same old.cpu.cpus new.cpu.cpus (ap (λ (c : table.Seated). c.cpus) only.cpu);
        queue = only_same plan.device old.queue new.queue only.queue;
      }

  -- a publication, which is told
  pub publish_goes : (estimate : Estimate) → Suits plan kit → context < length plan.contexts → (known_of context old.est).seen ≤ now.seen → IsTold (first_in kit.published.firsts context) (estimate ∷ []) (known_of context old.est) now
      → (told : Moments) (work : FlusherWork) (log : CpuJournal) (written : Option ℕ) → Contains told.estimates estimate.at
      → Went plan kit told (sight work old log written) (sight work new (with_estimate (record { context = context; estimate = estimate }) log) written)
  publish_goes estimate suits in_contexts low is_told told work log written has =
      let entry : EstEntry = record { context = context; estimate = estimate } in
      let e = estimated entry in
      let behind = with_estimate entry log in
      let s = sight work old log written in
      let t = sight work new behind written in
      let here : estimates_of context (e ∷ []) ≡ estimate ∷ [] = ap (λ (b : Bool). cond b (estimate ∷ []) [] ++ []) (eq-eqb context context refl) in
      let else_none : (k : ℕ) → k ≢ context → estimates_of k (e ∷ []) ≡ [] = λ k other. ap (λ (b : Bool). cond b (estimate ∷ []) [] ++ []) (ne_eqb context k (λ same. other (sym same))) in
      let each = each_known (λ k a b. IsTold (first_in kit.published.firsts k) (estimates_of k (e ∷ [])) a b)
      (subst (λ (l : List Estimate). IsTold (first_in kit.published.firsts context) l (known_of context old.est) now) (sym here) is_told)
      (λ k other. subst (λ (l : List Estimate). IsTold (first_in kit.published.firsts k) l (known_of k old.est) (known_of k old.est)) (sym (else_none k other)) (told_none (first_in kit.published.firsts k) (known_of k old.est))) in
      record {
        did = did_noted plan kit told s t (record {
          added = e ∷ [];
          of_flusher = (record { no_write = refl; no_check = refl; flight = tt; wait = tt }, tt);
          logged = logged_estimate entry log;
          own = λ trace is. (record { write = tt; fold = tt; check = tt; flight = tt; share = tt; estimate = lt-ltb context (contexts trace) (let same = ap (λ (l : List Context). length l) is.plan_is.contexts in omega arith); wait = tt }, tt);
          moments = (record { batch = tt; estimate = has; wait = tt }, tt);
          pages = grows_none written;
          flew = walked_silent (FliesInTurn plan.flusher) (flusher_after plan.flusher) (flusher_in s) (e ∷ []) ((λ p. (tt, refl)), tt);
          waited = λ trace is. list_kept trace plan.flusher (e ∷ []) (list_by work) (list_by work) (refl, tt) refl;
          cpu = only.cpu;
          grew = estimate_grows entry;
          shares = λ base. same_shares told work log behind written (e ∷ []) each base old.est new.est (record { no_write = refl; no_check = refl; flight = tt; wait = tt }, tt) (λ domain k. refl);
          estimates = λ base. record { each = each; names = others_name_none plan.cpu e (λ k. known_of k old.est) (λ k. known_of k new.est) refl (falls low) };
          held = λ page. refl;
          rescans = λ page owes own. own;
          marks = λ inode owes own. own;
          rooms = λ d is. let same = ap (λ (s : share.Seats). share.room_in d s.domains) only.share in omega arith;
          totals = λ k is. let same = ap (λ (s : share.Seats). room_of k s.totals.rooms) only.share in omega arith;
          stakes = λ d. ap (λ (s : share.Seats). share.stakes_in d s.domains) only.share;
          total_stakes = ap (λ (s : share.Seats). s.totals.stakes) only.share;
        });
        fits = fits_est;
        cpus = keeps_same old.cpu.cpus new.cpu.cpus (ap (λ (c : table.Seated). c.cpus) only.cpu);
        queue = only_same plan.device old.queue new.queue only.queue;
      }

-- ---- versions

pub version_of : (e : Estimate) → (note_of e).version ≡ e.version
version_of e = cond_both (eqb e.version 0) first_one e (λ (n : Estimate). n.version ≡ e.version) (λ is. first_version 0 ∙ sym (eqb-true e.version 0 is)) (λ not. refl)

at_end : (xs : List Estimate) (x : Estimate) → get_elem? (xs ++ x ∷ []) (length xs) ≡ some x
at_end [] x = refl
at_end (y ∷ xs) x = at_end xs x

-- the newest that is known has the last place
pub last_place : (known : Known) (estimate : Estimate) → IsComplete known → IsNewestNote known (note_of estimate) → length known.all ≡ estimate.version + 1
last_place known estimate complete newest =
    let place = complete.rising.by_version (length newest.0) (note_of estimate) (ap (λ (l : List Estimate). get_elem? l (length newest.0)) newest.1 ∙ at_end newest.0 (note_of estimate)) in
    let same = version_of estimate in
    let long = ap (λ (l : List Estimate). length l) newest.1 ∙ length-append newest.0 (note_of estimate ∷ []) in omega arith

pub newest_after : (first : Estimate) (known : Known) (note estimate : Estimate) → IsNewest first known estimate → IsNewest first (after_read note known) estimate
newest_after first known note estimate newest = record { later = newest.later; all_are = newest.all_are; newest_is = newest.newest_is }

-- ---- updates

-- an estimate that is old enough has a next one
pub update_some : (old : Estimate) (sample : Sample) → old.at + 200 ≤ sample.now → update_of old sample ≡ Some (updated old sample)
unfolding update_of
update_some old sample enough = cond-false (nat_lt (sample.now - old.at) 200) None (Some (updated old sample)) (le-ltb (sample.now - old.at) 200 (omega arith))

pub update_gives : (old : Estimate) (sample : Sample) (estimate : Estimate) → Some estimate ≡ update_of old sample → old.at + 200 ≤ sample.now → estimate ≡ updated old sample
update_gives old sample estimate is enough = some_same estimate (updated old sample) (is ∙ update_some old sample enough)
  where
    some_same : (a b : Estimate) → Some a ≡ Some b → a ≡ b
    some_same a b e = cc

pub updated_follows : (old : Estimate) (sample : Sample) → old.at + 200 ≤ sample.now → Follows old (updated old sample) × ((updated old sample).at ≡ sample.now)
unfolding updated
updated_follows old sample enough = (record { version = refl; later = enough; bandwidth = refl; average = refl }, refl)
