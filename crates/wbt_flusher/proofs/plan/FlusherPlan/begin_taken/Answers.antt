use Rattle.std.proofs.Common.{refl}
use Rattle.wbt_flusher.proofs.Common.{asked_none, sight}
use Rattle.std.proofs.Common.{ap, ◌∙◌}
use Rattle.wbt_flusher.specs.declared.work.FlusherWork.{FlusherWork}
use Rattle.wbt_flusher.proofs.Ending.{idle_stands, idles, steps_by}
use Rattle.wbt_flusher.proofs.Going.{owes_still}
use Rattle.wbt_flusher.proofs.Marks.{idle_bare}
use Rattle.wbt_flusher.proofs.Turning.{no_take}
use Rattle.wbt_flusher.proofs.plan.FlusherPlan.begin_taken.Goals as goal

pub returns-then-not-has-clause-ends : goal.returns-then-not-has-clause-ends
returns-then-not-has-clause-ends g c drain moments log written =
    let plan = c.args.self.now in
    let kit = c.args.hands.now.kit.now in
    let seats = c.args.seats.now in
    let ready = c.requires.ready in
    let e = c.be_idle.ensures in
    idles plan kit seats c.args.work.now c.be_idle.new.work 0 _ moments log written ready c.requires.idle.batch e.phase e.lists
    (e.goes kit seats ready.fits (idle_bare plan c.args.work.now seats c.requires.idle) moments log written)

pub returns-then-not-has-clause-asked : goal.returns-then-not-has-clause-asked
returns-then-not-has-clause-asked g c = asked_none c.args.self.now.cpu (g.G.Gate.said c.args.hands.now.gate.now) c.args.seats.now c.args.seats.now refl

pub returns-then-begin_scan-clause-ends : goal.returns-then-begin_scan-clause-ends
returns-then-begin_scan-clause-ends g c drain moments log written =
    let e = c.begin_scan.ensures in
    let ready = c.requires.ready in
    steps_by c.args.self.now c.args.hands.now.kit.now moments (sight c.args.work.now c.args.seats.now log written) (sight c.begin_scan.new.work c.begin_scan.new.seats log written)
    (e.goes moments log written) ready (e.steady c.if-begin_scan.true) (owes_still c.args.self.now c.args.seats.now c.begin_scan.new.seats e.debts ready.owes_none)

pub returns-clause-ends : goal.returns-clause-ends
returns-clause-ends g c drain moments log written =
    let e = c.begin_scan.ensures in
    let idle = c.requires.idle in
    record { went = e.goes moments log written; stands = idle_stands c.begin_scan.new.work.phase idle.until idle.kept (ap (λ (w : FlusherWork). w.phase) (e.same c.if-begin_scan.false) ∙ idle.phase); stopped = e.stopped c.if-begin_scan.false }

pub returns-clause-halts : goal.returns-clause-halts
returns-clause-halts g c is = (c.begin_scan.ensures.same c.if-begin_scan.false, c.begin_scan.ensures.stays c.if-begin_scan.false, c.has.ensures.0 c.if-not-has.false)

pub returns-then-not-has-clause-kinds : goal.returns-then-not-has-clause-kinds
returns-then-not-has-clause-kinds g c = no_take c.args.self.now.cpu c.args.seats.now c.args.seats.now refl
