-- A look at an inode: its mark is set, or was set, and then it goes into its device's queue.
use Rattle.std.proofs.Common.{◌≡◌, ◌⊎◌, inl, inr, ℕ, ◌<◌, not, ◌==◌, [], length, set, Result, Ok, Err, refl, sym, ap, ◌∙◌, subst, arith, length-set}
use Rattle.std.specs.Prelude.{IfErr, IfOk, None}
use Rattle.wbt_run_worker.proofs.Common.{kit_is_opened, CpuRecord, AreSeatsOf, HasCpu, IsKitOf, HoldsAll, setting, Layout, Has, IsLawful, Trace, Kit, Seats, record_of, record_is}
use Rattle.wbt_kit.proofs.Common.{mark, record_after, Setting, Makes, has_changed}
use Rattle.wbt_flusher.proofs.Listing.{passed}
use Rattle.wbt_rules.specs.Things.{context_of, device_of}
use Rattle.wbt_queue.specs.Known.{after_put}
use Rattle.wbt_queue.specs.Passes as queue
use Rattle.wbt_run_steps.specs.Kinds.{marking}
use Rattle.wbt_run_steps.specs.Records.{OnlyCpu}
use Rattle.wbt_run_steps.proofs.Logging.{makes_as}
use Rattle.wbt_run_steps.proofs.Changing.{apart_changed, seats_stay}
use Rattle.wbt_run_laws.proofs.Stepping.{steps_grow, untold_grows}
use Rattle.wbt_run_drain.specs.Swept.{IsUntold, StepsUntold}

-- ---- the mark

mark_untold : (to : Setting) (cpu inode found : ℕ) (r : CpuRecord) → IsUntold r (record_after to (mark cpu inode) found r)
mark_untold to cpu inode found r = record {
  grew = untold_grows [] r (record_after to (mark cpu inode) found r) ((steps_grow to found r).untold (mark cpu inode) refl);
  made = omega arith;
  held = refl;
  debts = refl;
  rescans = λ page owes. (passed (λ q. not (to.inode q == inode)) page r.owed_rescans owes).there;
  marks = λ i owes. (passed (λ m. not (m == inode)) i r.owed_marks owes).there;
}

pub marked : (kit : Kit) (cpu inode found : ℕ) (old new : Seats) (r : CpuRecord) → cpu ≡ 0 → AreSeatsOf kit old → HasCpu cpu r old → OnlyCpu old new
    → Makes (setting kit.throttle.layout) (mark cpu inode) found old.cpu new.cpu → StepsUntold cpu kit old new
marked kit cpu inode found old new r first seats held only makes =
    let f = record_after (setting kit.throttle.layout) (mark cpu inode) found in
    let now : Has new.cpu.cpus cpu (f r) = has_changed cpu f old.cpu new.cpu r makes.changes held in
    let was_is = record_is old.cpu.cpus cpu r held in
    let now_is = record_is new.cpu.cpus cpu (f r) now in
    record {
      seats_are = seats_stay kit cpu f old new r seats held makes.changes only;
      has = subst (λ (q : CpuRecord). HasCpu cpu q new) (sym now_is) now;
      apart = apart_changed cpu f old.cpu new.cpu r makes.changes held;
      steps = subst (λ (q : CpuRecord). IsUntold q (record_of cpu new.cpu.cpus)) (sym was_is)
          (subst (λ (q : CpuRecord). IsUntold r q) (sym now_is) (mark_untold (setting kit.throttle.layout) cpu inode found r));
      kinds = (marking, inr (first, refl), makes_as cpu (setting kit.throttle.layout) (mark cpu inode) found old new refl makes);
      share = only.share;
      est = only.est;
    }

-- ---- the put

-- the pass is one of the same queues
pub record SamePass (old new : queue.Seats) : Type 0 where
  pub names : new.names ≡ old.names
  pub many : length new.known ≡ length old.known

abbrev with_queue : (seats : Seats) (pass : queue.Seats) → Seats
with_queue seats pass = record seats { queue = pass }

pub seats_queued : (kit : Kit) (seats : Seats) (pass : queue.Seats) → AreSeatsOf kit seats → SamePass seats.queue pass → AreSeatsOf kit (with_queue seats pass)
seats_queued kit seats pass are same = record {
  cpu = are.cpu;
  each_cpu = are.each_cpu;
  share = are.share;
  est = are.est;
  each_context = are.each_context;
  queue = same.names ∙ are.queue;
  each_device = same.many ∙ are.each_device;
}

-- an inode's place in the kit
pub record IsPlaced (trace : Trace) (kit : Kit) (inode : ℕ) : Type 0 where
  pub mark : inode < length kit.throttle.layout.inodes
  pub context : context_of trace inode < length trace.contexts
  pub device : device_of trace inode < length kit.queues.sizes

pub placed : (trace : Trace) (now : ℕ) (kit : Kit) (inode : ℕ) → IsLawful trace → IsKitOf trace now kit → inode < length trace.inodes → IsPlaced trace kit inode
placed trace now kit inode lawful of less =
    let opened = kit_is_opened trace now kit lawful of in
    let context = (lawful.within.inodes.each inode (record { context = 0; first = 0; pages = 0 }) less).0 in
    let device = (lawful.within.contexts (context_of trace inode) (record { device = 0; domain = 0; expire = None; estimate = None }) context).0 in
    record {
      mark = subst (λ (n : ℕ). inode < n) (sym opened.inodes_are) less;
      context = context;
      device = subst (λ (n : ℕ). device_of trace inode < n) (sym opened.devices_are) device;
    }

-- whether the queue was full or not, the pass is one of the same queues
pub same_pass : {A B : Type 0} (answer : Result A B) (held : Type 0) (device inode : ℕ) (old new : queue.Seats)
    → IfOk answer (λ _. new ≡ record old { known = set old.known device (after_put inode (queue.known_of device old)) }) → IfErr answer (λ _. (new ≡ old) × held) → SamePass old new
same_pass (Ok done) held device inode old new put full = record {
  names = ap (λ (pass : queue.Seats). pass.names) put;
  many = ap (λ (pass : queue.Seats). length pass.known) put ∙ length-set old.known device (after_put inode (queue.known_of device old));
}
same_pass (Err refused) held device inode old new put full = record {
  names = ap (λ (pass : queue.Seats). pass.names) full.0;
  many = ap (λ (pass : queue.Seats). length pass.known) full.0;
}

-- the first CPU's record is there
pub first_held : (trace : Trace) (now : ℕ) (kit : Kit) (seats : Seats) → IsLawful trace → IsKitOf trace now kit → AreSeatsOf kit seats → HoldsAll seats.cpu
    → (r : CpuRecord) × HasCpu 0 r seats
first_held trace now kit seats lawful of are all =
    let many : seats.cpu.layout.cpus ≡ trace.cpus = ap (λ (key : Layout). key.cpus) (are.cpu.layout ∙ of.layout) in
    all.cpus 0 (subst (λ (n : ℕ). 0 < n) (sym many) lawful.whole.cpus)

-- it was put, or the queue was full
pub put_or_full : {A B : Type 0} (answer : Result A B) (put same full : Type 0) → IfOk answer (λ _. put) → IfErr answer (λ _. same × full) → put ⊎ full
put_or_full (Ok done) put same full was_put was_full = inl was_put
put_or_full (Err refused) put same full was_put was_full = inr was_full.1
