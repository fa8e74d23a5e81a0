use Rattle.std.proofs.Common.{◌≡◌, ℕ, ◌+◌, ◌<◌, ◌≤◌, [], get_or, refl, sym, ap, ◌∙◌, subst, arith}
use Rattle.wbt_flusher.proofs.Common.{times_in, CpuRecord, complete, record_after, setting, Seated, Changes, same_default, CpuJournal, with_entry, Seats, record_of, record_is, Went, Goes, sight}
use Rattle.wbt_journal.specs.declared.entry.Entry.TheVariants as entry
use Rattle.wbt_flusher.specs.declared.work.Flight.{Flight}
use Rattle.wbt_flusher.specs.declared.work.Phase.TheVariants.{Flying}
use Rattle.wbt_flusher.specs.declared.work.FlusherWork.{FlusherWork}
use Rattle.wbt_flusher.proofs.Going.{goes_nowhere}
use Rattle.wbt_flusher.proofs.Completing.{next_held, completes_page}
use Rattle.wbt_flusher.proofs.plan.FlusherPlan.complete.Goals as goal

pub complete-requires-clause-may : goal.complete-requires-clause-may
complete-requires-clause-may c =
    let h = c.requires.fits.held in
    let page : c.index-page.result.now ≡ get_or c.args.work.now.batch.items c.args.flight.landed 0 = c.index-page.ensures ∙ same_default c.args.work.now.batch.items c.args.flight.landed c.index-page.result.now 0 c.requires.flight.some_left in
    let there : get_or c.args.work.now.batch.items c.args.flight.landed 0 < c.args.self.now.pages = c.requires.flight.pages c.args.flight.landed 0 c.requires.flight.some_left in
    let same = c.requires.suits.pages_are in
    let at = record_is c.args.seats.now.cpu.cpus c.args.self.now.cpu h.0 h.1 in
    let held = next_held c.args.self.now c.args.work.now c.args.seats.now c.args.flight c.requires.phase c.requires.flight c.requires.holds in
    let holds : 1 ≤ times_in c.index-page.result.now h.0.held = subst (λ (r : CpuRecord). 1 ≤ times_in c.index-page.result.now r.held) at (subst (λ (p : ℕ). 1 ≤ times_in p (record_of c.args.self.now.cpu c.args.seats.now.cpu.cpus).held) (sym page) held) in
    (h.0, h.1, record { page_is = omega arith; holds_it = omega arith; owes_none = subst (λ (r : CpuRecord). r.debts ≡ []) at c.requires.owes })

pub returns-in_err-complete-clause-goes : goal.returns-in_err-complete-clause-goes
returns-in_err-complete-clause-goes c told written =
    subst (λ (s : Seated). Went c.args.self.now c.args.kit.now told (sight c.args.work.now c.args.seats.now c.args.pen.now.log written) (sight c.args.work.now (record { cpu = s; share = c.args.seats.now.share; est = c.args.seats.now.est; queue = c.args.seats.now.queue }) c.args.pen.now.log written))
    (sym c.in_err-complete.ensures.spent.0)
    (goes_nowhere c.args.self.now c.args.kit.now c.args.seats.now c.requires.fits told c.args.work.now c.args.pen.now.log written)

pub returns : goal.returns
returns c =
    let had = c.in_ok-complete.ensures.had_a_step in
    let made = c.in_ok-complete.ensures.completed in
    let page : c.index-page.result.now ≡ get_or c.args.work.now.batch.items c.args.flight.landed 0 = c.index-page.ensures ∙ same_default c.args.work.now.batch.items c.args.flight.landed c.index-page.result.now 0 c.requires.flight.some_left in
    let new : Seats = record { cpu = c.complete.new.seat; share = c.args.seats.now.share; est = c.args.seats.now.est; queue = c.args.seats.now.queue } in
    let next : Flight = record { until = c.args.flight.until; inode = c.args.flight.inode; landed = c.args.flight.landed + 1 } in
    let is : FlusherWork = record { phase = Flying next; batch = c.args.work.now.batch; faults = c.args.work.now.faults; hard = c.args.work.now.hard; waiting = c.args.work.now.waiting; some_wait = c.args.work.now.some_wait; tallies = c.args.work.now.tallies; wheel = c.args.work.now.wheel; places = c.args.work.now.places } in
    let few = had.2 in
    let most = c.requires.suits.few_page_steps in
    let done = completes_page c.args.self.now c.args.kit.now c.args.seats.now new c.args.pen.now.log c.args.work.now is c.args.flight next made.0
    c.requires.suits c.requires.fits (record { share = refl; est = refl; queue = refl }) c.requires.phase refl refl refl refl refl refl refl c.requires.flight c.requires.holds
    had.0 had.1 (omega arith)
    (subst (λ (p : ℕ). Changes c.args.self.now.cpu (record_after (setting c.args.kit.now.throttle.layout) (complete c.args.self.now.cpu p) made.0) c.args.seats.now.cpu c.complete.new.seat) page made.1.changes) in
    let log = c.tell.ensures.log ∙ ap (λ (p : ℕ). with_entry (entry.Done c.args.self.now.flusher p) c.args.pen.now.log) page in
    let room = c.tell.ensures.room in
    record {
      fits = done.fits;
      goes = subst (λ (l : CpuJournal). Goes c.args.self.now c.args.kit.now c.args.seats.now new c.args.pen.now.log l c.args.work.now is) (sym log) done.goes;
      next = refl;
      spent = tt;
      untold = tt;
      owed = done.owed;
      completes = record {
        page = c.index-page.result.now;
        within = c.requires.flight.some_left;
        its_page = page;
        found = made.0;
        makes = made.1;
        only = record { share = refl; est = refl; queue = refl };
        told = c.tell.ensures.log;
      };
      room = omega arith;
    }
