use Rattle.std.proofs.Common.{◌≡◌, ℕ, ◌<◌, ◌≤◌, false, List, length, refl, ap, arith}
use Rattle.wbt_flusher.proofs.Common.{Estimate, note_of, after_read, first_in, known_of, Known, Scan, Seats, sight, inode_at}
use Rattle.wbt_run_laws.proofs.Calling.{read_tells_nothing}
use Rattle.wbt_flusher.specs.Turns.{start_of}
use Rattle.wbt_flusher.specs.declared.work.Phase.TheVariants.{Scanning}
use Rattle.wbt_flusher.specs.declared.work.FlusherWork.{FlusherWork}
use Rattle.wbt_flusher.proofs.Going.{went_more, goes_kept}
use Rattle.wbt_flusher.proofs.Measuring.{fits_est, read_goes, version_of}
use Rattle.wbt_flusher.proofs.Scans.{begins, requota}
use Rattle.wbt_flusher.proofs.plan.FlusherPlan.set_quota.Goals as goal

pub returns-clause-goes : goal.returns-clause-goes
returns-clause-goes g c told log written =
    let old = c.args.seats.now in
    let plan = c.args.self.now in
    let kit = c.args.hands.now.kit.now in
    let k = c.context_of-context.result in
    let e = c.read-avg.ensures in
    let known : Known = known_of k old.est in
    let note : Estimate = note_of c.read-avg.result in
    let new : Seats = record { cpu = old.cpu; share = old.share; est = c.read-avg.new.pass; queue = old.queue } in
    let fits = c.requires.fits in
    let there : k < length old.est.known = (let a = fits.seats_are.each_context in let b = c.requires.suits.published in let d = c.context_of-context.ensures in let f = c.requires.suits.plan_is.contexts c.args.inode c.requires.inode.there in omega arith) in
    let low : known.seen ≤ (after_read note known).seen = (let v = version_of c.read-avg.result in let f = e.fresh.0 in omega arith) in
    let was : FlusherWork = c.args.work.now in
    let a : Scan = record { inode = c.args.inode; first = (inode_at plan c.args.inode).first; pages = (inode_at plan c.args.inode).pages; start = start_of plan was c.args.inode; passed = 0; quota = 0; noted = false } in
    let b : Scan = record { inode = c.args.inode; first = c.first_of.result; pages = c.pages_of.result; start = c.start_of.result; passed = 0; quota = c.quota_of.result; noted = false } in
    let is : FlusherWork = record { phase = Scanning b; batch = was.batch; faults = was.faults; hard = was.hard; waiting = was.waiting; some_wait = was.some_wait; tallies = was.tallies; wheel = was.wheel; places = was.places } in
    went_more plan kit told (sight was old log written) (sight was new log written) (sight is new log written)
    (read_goes plan kit old new k (after_read note known) fits (record { cpu = refl; share = refl; queue = refl }) e.noted there refl low (read_tells_nothing (first_in kit.published.firsts k) known c.read-avg.result) told was log written)
    (goes_kept plan kit new was is (fits_est plan kit old new k (after_read note known) fits (record { cpu = refl; share = refl; queue = refl }) e.noted there refl)
    (requota plan new was is a b c.requires.begun refl
    (λ i. record { inode = c.args.inode; first = c.first_of.ensures i; pages = c.pages_of.ensures i; start = c.start_of.ensures.value i; passed = 0; quota = c.quota_of.result; noted = false }) refl refl refl refl) told log written)

pub returns-clause-steady : goal.returns-clause-steady
returns-clause-steady g c =
    let plan = c.args.self.now in
    let lists = c.requires.lists in
    let scan : Scan = record { inode = c.args.inode; first = c.first_of.result; pages = c.pages_of.result; start = c.start_of.result; passed = 0; quota = c.quota_of.result; noted = false } in
    let less = c.start_of.ensures.below in
    let pages = c.pages_of.ensures in
    let at = begins plan c.args.work.now.batch.items scan c.requires.inode c.requires.empty (record { first_is = c.first_of.ensures; pages_are = pages; start = omega arith; none = refl }) c.quota_of.ensures.within in
    let none : length c.args.work.now.batch.items ≡ 0 = ap (λ (l : List ℕ). length l) c.requires.empty in
    let some = c.quota_of.ensures.some c.requires.suits.plan_is.chunk in
    record {
      lists = record { proper = lists.proper; tallies = lists.tallies; waiting = lists.waiting; none_wait = lists.none_wait; wheel = lists.wheel; places = lists.places };
      phase = (at.0, at.1, omega arith);
      few_faults = c.requires.few_faults;
    }
