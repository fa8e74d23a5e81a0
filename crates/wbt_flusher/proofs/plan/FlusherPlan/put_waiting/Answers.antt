use Rattle.wbt_flusher.proofs.Common.{only_same, PutsBefore}
use Rattle.wbt_flusher.proofs.Going.{goes_nowhere}
use Rattle.wbt_flusher.proofs.Keeping.{queue_goes}
use Rattle.std.proofs.Common.{◌≡◌, Bool, false, length, refl, sym, subst}
use Rattle.wbt_flusher.proofs.Held.{puts_none}
use Rattle.wbt_flusher.proofs.plan.FlusherPlan.put_waiting.Goals as goal

pub returns-then-not-work-clause-goes : goal.returns-then-not-work-clause-goes
returns-then-not-work-clause-goes g c told log written = goes_nowhere c.args.self.now c.args.hands.now.kit.now c.args.seats.now c.requires.fits told c.args.work.now log written

pub returns-clause-goes : goal.returns-clause-goes
returns-clause-goes g c =
    let e = c.put_each-some.ensures in
    let o = e.only_waiting in
    queue_goes c.args.self.now c.args.hands.now.kit.now c.args.seats.now c.put_each-some.new.seats c.args.work.now _ e.fits e.only_queue e.device
    (record { phase = o.phase; batch = o.batch; faults = o.faults; hard = o.hard; tallies = o.tallies; wheel = o.wheel; waiting = o.waiting; places = o.places })

pub returns-then-not-work-clause-puts : goal.returns-then-not-work-clause-puts
returns-then-not-work-clause-puts g c =
    let work = c.args.work.now in
    let seats = c.args.seats.now.queue in
    let none : work.some_wait ≡ false = c.if-not-work.true in
    subst (λ (b : Bool). PutsBefore c.args.self.now c.args.hands.now.kit.now (length c.args.self.now.inodes) seats seats work.waiting.items work.waiting.items b) (sym none)
    (puts_none c.args.self.now c.args.hands.now.kit.now seats work.waiting.items (c.requires.lists.none_wait none) (length c.args.self.now.inodes))

pub returns-then-not-work-clause-device : goal.returns-then-not-work-clause-device
returns-then-not-work-clause-device g c = only_same c.args.self.now.device c.args.seats.now.queue c.args.seats.now.queue refl
