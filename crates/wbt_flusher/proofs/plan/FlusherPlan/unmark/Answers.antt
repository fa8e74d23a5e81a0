use Rattle.std.proofs.Common.{false, refl, sym, ap, ◌∙◌, arith}
use Rattle.wbt_flusher.proofs.Common.{unmark, record_after, setting, Scan, Seats, only_same, landed_in, phase_by, pages_by}
use Rattle.wbt_journal.specs.Flights as flights
use Rattle.wbt_flusher.specs.declared.work.Phase.{Phase}
use Rattle.wbt_flusher.specs.declared.work.Phase.TheVariants.{Scanning}
use Rattle.wbt_flusher.specs.declared.work.FlusherWork.{FlusherWork}
use Rattle.wbt_flusher.proofs.Beginning.{begins_scan}
use Rattle.wbt_flusher.proofs.Changing.{changed}
use Rattle.wbt_flusher.proofs.Fitting.{fits_cpu, keeps_debts}
use Rattle.wbt_flusher.proofs.Going.{keeps_changed}
use Rattle.wbt_flusher.proofs.plan.FlusherPlan.unmark.Goals as goal

pub returns-clause-fits : goal.returns-clause-fits
returns-clause-fits c = let made = c.clear_inode.ensures in
    fits_cpu c.args.self.now c.args.kit.now c.args.seats.now (record { cpu = c.clear_inode.new.seat; share = c.args.seats.now.share; est = c.args.seats.now.est; queue = c.args.seats.now.queue })
    (record_after (setting c.args.kit.now.throttle.layout) (unmark c.args.self.now.cpu c.args.inode) made.0) c.requires.fits made.1.changes (record { share = refl; est = refl; queue = refl })

pub returns-clause-goes : goal.returns-clause-goes
returns-clause-goes c told log written =
    let made = c.clear_inode.ensures in
    let idle = c.requires.idle in
    let h = c.requires.fits.held in
    let was : FlusherWork = c.args.work.now in
    let old : Seats = c.args.seats.now in
    let new : Seats = record { cpu = c.clear_inode.new.seat; share = old.share; est = old.est; queue = old.queue } in
    let scan : Scan = record { inode = c.args.inode; first = c.first_of.result; pages = c.pages_of.result; start = c.start_of.result; passed = 0; quota = 0; noted = false } in
    let less = c.start_of.ensures.below in
    let pages = c.pages_of.ensures in
    let is : FlusherWork = record { phase = Scanning scan; batch = was.batch; faults = was.faults; hard = was.hard; waiting = was.waiting; some_wait = was.some_wait; tallies = was.tallies; wheel = was.wheel; places = was.places } in
    let f = record_after (setting c.args.kit.now.throttle.layout) (unmark c.args.self.now.cpu c.args.inode) made.0 in
    let works = begins_scan c.args.self.now c.args.kit.now old new
    was is made.0 h.0 c.requires.suits refl refl h.1 refl refl refl
    (λ k. sym (ap (λ (p : Phase). landed_in c.args.self.now p k) idle.phase))
    (ap flights.scanning idle.batch ∙ sym (ap (phase_by was.batch.items) idle.phase))
    (idle.batch ∙ sym (ap (pages_by was.batch.items) idle.phase))
    idle.until idle.kept scan idle.phase refl (record { first_is = c.first_of.ensures; pages_are = pages; start = omega arith; none = refl }) c.requires.inode made.1.changes log in
    record {
      did = works told written;
      fits = returns-clause-fits c;
      cpus = keeps_changed c.args.self.now.cpu h.0 (f h.0) old.cpu new.cpu (changed c.args.self.now.cpu f old.cpu new.cpu h.0 made.1.changes h.1) h.1 refl refl;
      queue = only_same c.args.self.now.device old.queue new.queue refl;
    }

pub returns-clause-debts : goal.returns-clause-debts
returns-clause-debts c =
    let made = c.clear_inode.ensures in
    let h = c.requires.fits.held in
    keeps_debts c.args.self.now c.args.seats.now (record { cpu = c.clear_inode.new.seat; share = c.args.seats.now.share; est = c.args.seats.now.est; queue = c.args.seats.now.queue })
    (record_after (setting c.args.kit.now.throttle.layout) (unmark c.args.self.now.cpu c.args.inode) made.0) h.0 h.1 made.1.changes refl

pub returns-clause-lists : goal.returns-clause-lists
returns-clause-lists c = let lists = c.requires.lists in record { proper = lists.proper; tallies = lists.tallies; waiting = lists.waiting; none_wait = lists.none_wait; wheel = lists.wheel; places = lists.places }
