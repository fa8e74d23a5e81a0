-- Steps on the marks of inodes: what a begun scan and a closed one did.
use Rattle.std.proofs.Common.{◌≡◌, ℕ, ◌≤◌, Bool, not, ◌==◌, Option, List, [], get_or, sym, refl, ap, ◌∙◌, subst, arith, eq-eqb, true≢false}
use Rattle.wbt_flusher.proofs.Common.{times_in, mark, unmark, record_after, CpuRecord, setting, Has, Changes, CpuJournal, Scan, Flew, FliesInTurn, flusher_after, logged_nothing, walked_none, Kit, Seats, record_of, record_is, Works, Suits, IsInode, inode_at, sight, phase_by, pages_by, landed_in, owing_total, first_tallies, list_by, OwesInodeNothing, pairs_of}
use Rattle.wbt_journal.specs.Flights as flights
use Rattle.wbt_flusher.specs.Sights.{flusher_by}
use Rattle.wbt_flusher.specs.declared.plan.FlusherPlan.{FlusherPlan}
use Rattle.wbt_flusher.specs.declared.tally.Tallies.{Tallies}
use Rattle.wbt_flusher.specs.declared.work.Phase.TheVariants.{Idle, Scanning}
use Rattle.wbt_flusher.specs.declared.work.FlusherWork.{FlusherWork}
use Rattle.wbt_flusher.proofs.Acting.{OnRecord, did_act, on_cpu, same_flusher}
use Rattle.wbt_flusher.proofs.Changing.{changed}
use Rattle.wbt_flusher.proofs.Listing.{passed}
use Rattle.wbt_flusher.proofs.Marking.{IsAtBegin, marked_on, begun_on}
use Rattle.wbt_flusher.proofs.Noting.{grows_none}
use Rattle.wbt_flusher.proofs.Owing.{owing_stays}
use Rattle.wbt_flusher.proofs.Waiting.{list_kept}

module _ (plan : FlusherPlan) (kit : Kit) (old new : Seats) (was is : FlusherWork) (n : ℕ) (r : CpuRecord)
    (suits : Suits plan kit) (share_is : new.share ≡ old.share) (est_is : new.est ≡ old.est) (has : Has old.cpu.cpus plan.cpu r)
    (tallies : is.tallies.items ≡ was.tallies.items) (faults : is.faults ≡ was.faults) (wheel : is.wheel ≡ was.wheel) (none_landed : (k : ℕ) → landed_in plan is.phase k ≡ landed_in plan was.phase k)
    (phase : phase_by is.batch.items is.phase ≡ phase_by was.batch.items was.phase) (pages : pages_by is.batch.items is.phase ≡ pages_by was.batch.items was.phase) where
  totals_stay : (k : ℕ) → owing_total plan k is ≡ owing_total plan k was
  totals_stay k = let a = ap (λ (l : List Tallies). (get_or l k first_tallies).written) tallies in let b = none_landed k in omega arith

  -- A step on the CPU's words that tells and adds nothing.
  tells_nothing : (f : CpuRecord → CpuRecord) → Changes plan.cpu f old.cpu new.cpu → (log : CpuJournal)
      → ((written : Option ℕ) → OnRecord plan [] (sight was old log written) (sight is new log written) r (f r)) → Works plan kit old new log log was is
  tells_nothing f change log on told written =
      let now = changed plan.cpu f old.cpu new.cpu r change has in
      let s = sight was old log written in
      let t = sight is new log written in
      did_act plan kit told s t (record {
        added = [];
        of_flusher = tt;
        plain = tt;
        adds_none = λ domain context. refl;
        logged = logged_nothing log;
        own = λ trace work. tt;
        moments = tt;
        pages = grows_none written;
        flew = subst (λ (p : flights.ToldFlusher). Flew plan.flusher (flusher_by was) [] p) (sym (same_flusher was is phase faults)) (walked_none (FliesInTurn plan.flusher) (flusher_after plan.flusher) (flusher_by was));
        waited = λ trace work. list_kept trace plan.flusher [] (list_by was) (list_by is) tt (ap pairs_of wheel);
        apart = now.apart;
        share = share_is;
        est = est_is;
        on_record = on_cpu plan [] s t r (f r) has now.has (on written);
      })

  -- the mark was set, of a flusher that stays where it is
  pub marks_inode : (inode : ℕ) → is.phase ≡ was.phase → Changes plan.cpu (record_after (setting kit.throttle.layout) (mark plan.cpu inode) n) old.cpu new.cpu
      → (log : CpuJournal) → Works plan kit old new log log was is
  marks_inode inode same change log =
      let set' = setting kit.throttle.layout in
      let f = record_after set' (mark plan.cpu inode) n in
      let now = changed plan.cpu f old.cpu new.cpu r change has in
      tells_nothing f change log
      (λ written. marked_on plan set' (sight was old log written) (sight is new log written) n r now.completed (owing_stays plan was is tallies none_landed) totals_stay pages inode same)

  -- and nothing is owed to the inode then
  pub marks_pay : (inode : ℕ) → IsInode plan inode → Changes plan.cpu (record_after (setting kit.throttle.layout) (mark plan.cpu inode) n) old.cpu new.cpu → OwesInodeNothing plan inode new
  marks_pay inode its change =
      let set' = setting kit.throttle.layout in
      let f = record_after set' (mark plan.cpu inode) n in
      let now = changed plan.cpu f old.cpu new.cpu r change has in
      let at : record_of plan.cpu new.cpu.cpus ≡ f r = record_is new.cpu.cpus plan.cpu (f r) now.has in
      record {
        rescans = λ p low high owes.
            let kept = (passed (λ q. not (set'.inode q == inode)) p r.owed_rescans (subst (λ (q : CpuRecord). 1 ≤ times_in p q.owed_rescans) at owes)).kept in
            true≢false (sym kept ∙ ap not (eq-eqb (set'.inode p) inode (suits.its_pages inode p its.there low high)));
        mark = λ owes.
            let kept = (passed (λ m. not (m == inode)) inode r.owed_marks (subst (λ (q : CpuRecord). 1 ≤ times_in inode q.owed_marks) at owes)).kept in
            true≢false (sym kept ∙ ap not (eq-eqb inode inode refl));
      }

  -- a scan began
  pub begins_scan : (until : ℕ) (kept : Bool) (scan : Scan) → was.phase ≡ Idle until kept → is.phase ≡ Scanning scan → IsAtBegin plan scan → IsInode plan scan.inode
      → Changes plan.cpu (record_after (setting kit.throttle.layout) (unmark plan.cpu scan.inode) n) old.cpu new.cpu
      → (log : CpuJournal) → Works plan kit old new log log was is
  begins_scan until kept scan was_at is_at begun inode change log =
      let set' = setting kit.throttle.layout in
      let f = record_after set' (unmark plan.cpu scan.inode) n in
      let now = changed plan.cpu f old.cpu new.cpu r change has in
      tells_nothing f change log
      (λ written. begun_on plan set' (sight was old log written) (sight is new log written) n r now.completed (owing_stays plan was is tallies none_landed) totals_stay pages
      until kept scan was_at is_at begun (λ p there its. suits.no_others scan.inode p inode.there (let same = suits.pages_are in omega arith) its))
