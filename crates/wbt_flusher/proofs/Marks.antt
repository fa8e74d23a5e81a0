-- A scan closes: its inode's mark is set where that is due, and what the flusher would owe itself is paid.
use Rattle.std.proofs.Common.{◌≡◌, ℕ, ◌≤◌, false, List, [], sym, refl, ap, ◌∙◌, subst, arith, true≢false}
use Rattle.wbt_flusher.proofs.Common.{times_in, mark, record_after, setting, Changes, Seated, Scan, Kit, Seats, OnlyQueue, OnlyCpu, record_of, only_same, GoesKept, Fits, KeepsDebts, Suits, IsInode, phase_by, landed_in, OwesRescan, OwesMark, IsIdle, IsScan, OwesInodeNothing}
use Rattle.wbt_flusher.specs.Turns.{IsPaid, IsBare}
use Rattle.wbt_flusher.specs.declared.plan.FlusherPlan.{FlusherPlan}
use Rattle.wbt_flusher.specs.declared.work.Phase.{Phase}
use Rattle.wbt_flusher.specs.declared.work.Phase.TheVariants.{Scanning}
use Rattle.wbt_rules.proofs.Places.{page_inside, none_ahead}
use Rattle.wbt_flusher.specs.declared.work.FlusherWork.{FlusherWork}
use Rattle.wbt_flusher.proofs.Beginning.{marks_inode, marks_pay}
use Rattle.wbt_flusher.proofs.Changing.{changed}
use Rattle.wbt_flusher.proofs.Fitting.{fits_cpu, keeps_debts}
use Rattle.wbt_flusher.proofs.Going.{keeps_changed}

-- the mark was set
pub record Marked (plan : FlusherPlan) (kit : Kit) (old new : Seats) (work : FlusherWork) (inode : ℕ) : Type 0 where
  pub goes : GoesKept plan kit old new work work
  pub fits : Fits plan kit new
  pub debts : KeepsDebts plan old new
  pub pays : OwesInodeNothing plan inode new

pub marked : (plan : FlusherPlan) (kit : Kit) (old new : Seats) (work : FlusherWork) (inode n : ℕ) → Suits plan kit → Fits plan kit old → OnlyCpu old new → IsInode plan inode
    → Changes plan.cpu (record_after (setting kit.throttle.layout) (mark plan.cpu inode) n) old.cpu new.cpu → Marked plan kit old new work inode
marked plan kit old new work inode n suits fits only its change =
    let f = record_after (setting kit.throttle.layout) (mark plan.cpu inode) n in
    let r = fits.held.0 in
    let has = fits.held.1 in
    let fits' = fits_cpu plan kit old new f fits change only in
    let works = marks_inode plan kit old new work work n r suits only.share only.est has refl refl refl (λ k. refl) refl refl inode refl change in
    record {
      goes = λ told log written. record {
        did = works log told written;
        fits = fits';
        cpus = keeps_changed plan.cpu r (f r) old.cpu new.cpu (changed plan.cpu f old.cpu new.cpu r change has) has refl refl;
        queue = only_same plan.device old.queue new.queue only.queue;
      };
      fits = fits';
      debts = keeps_debts plan old new f r has change refl;
      pays = marks_pay plan kit old new work work n r suits only.share only.est has refl refl refl (λ k. refl) refl refl inode its change;
    }

-- a scan of an inode to which nothing is owed is paid
pub pays_scan : (plan : FlusherPlan) (batch : List ℕ) (scan : Scan) (seats : Seats) → IsScan plan batch scan → OwesInodeNothing plan scan.inode seats → IsPaid plan scan seats
pays_scan plan batch scan seats stands pays = record {
  rescans = λ page owes own.
      let first = stands.first_is in
      let pages = stands.pages_are in
      let inside = page_inside scan.first scan.pages scan.start own.0 stands.start in
      let low = inside.0 in
      let high = inside.1 in
      let is = own.3 in
      pays.rescans page (omega arith) (omega arith) owes;
  marks = λ inode owes own. pays.mark (subst (λ (i : ℕ). 1 ≤ times_in i (record_of plan.cpu seats.cpu.cpus).owed_marks) own.1 owes);
}

-- what a whole scan without a noted mark would owe itself is nothing
pub paid_whole : (plan : FlusherPlan) (scan : Scan) (seats : Seats) → scan.noted ≡ false → scan.pages ≤ scan.passed → IsPaid plan scan seats
paid_whole plan scan seats none past = record {
  rescans = λ page owes own. none_ahead scan page past own;
  marks = λ inode owes own. true≢false (sym own.0 ∙ none);
}

-- nothing is owed where the records stay
pub pays_still : (plan : FlusherPlan) (inode : ℕ) (old new : Seats) → OnlyQueue old new → OwesInodeNothing plan inode old → OwesInodeNothing plan inode new
pays_still plan inode old new queue pays = record {
  rescans = λ page low high owes. pays.rescans page low high (subst (λ (c : Seated). 1 ≤ times_in page (record_of plan.cpu c.cpus).owed_rescans) queue.cpu owes);
  mark = λ owes. pays.mark (subst (λ (c : Seated). 1 ≤ times_in inode (record_of plan.cpu c.cpus).owed_marks) queue.cpu owes);
}

-- a scan that is paid and has no batch is bare
pub scan_bare : (plan : FlusherPlan) (scan : Scan) (work : FlusherWork) (seats : Seats) → work.phase ≡ Scanning scan → work.batch.items ≡ [] → IsPaid plan scan seats → IsBare plan work seats
scan_bare plan scan work seats at none paid = record {
  batch = none;
  lands_none = λ context. ap (λ (p : Phase). landed_in plan p context) at;
  rescans = λ page owes own. paid.rescans page owes (subst (λ (p : Phase). OwesRescan plan p page) at own);
  marks = λ inode owes own. paid.marks inode owes (subst (λ (p : Phase). OwesMark p inode) at own);
  flies_none = ap (phase_by []) at;
}

pub idle_bare : (plan : FlusherPlan) (work : FlusherWork) (seats : Seats) → IsIdle work → IsBare plan work seats
idle_bare plan work seats idle = record {
  batch = idle.batch;
  lands_none = λ context. ap (λ (p : Phase). landed_in plan p context) idle.phase;
  rescans = λ page owes own. subst (λ (p : Phase). OwesRescan plan p page) idle.phase own;
  marks = λ inode owes own. subst (λ (p : Phase). OwesMark p inode) idle.phase own;
  flies_none = ap (phase_by []) idle.phase;
}
