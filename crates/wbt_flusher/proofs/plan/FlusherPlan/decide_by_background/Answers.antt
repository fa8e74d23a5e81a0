use Rattle.wbt_flusher.proofs.Common.{asked_none}
use Rattle.std.proofs.Common.{false, refl}
use Rattle.wbt_flusher.proofs.Ending.{idles}
use Rattle.wbt_flusher.proofs.Marks.{idle_bare}
use Rattle.wbt_flusher.proofs.Turning.{no_take}
use Rattle.wbt_flusher.proofs.plan.FlusherPlan.decide_by_background.Goals as goal

pub returns-then-not-over-clause-asked : goal.returns-then-not-over-clause-asked
returns-then-not-over-clause-asked g c = asked_none c.args.self.now.cpu (g.G.Gate.said c.args.hands.now.gate.now) c.args.seats.now c.args.seats.now refl

pub returns-then-not-over-clause-ends : goal.returns-then-not-over-clause-ends
returns-then-not-over-clause-ends g c moments log written =
    let plan = c.args.self.now in
    let kit = c.args.hands.now.kit.now in
    let was = c.args.work.now in
    let seats = c.args.seats.now in
    let ready = c.requires.ready in
    let idle = c.requires.idle in
    let e = c.be_idle.ensures in
    idles plan kit seats was c.be_idle.new.work c.args.until false moments log written ready idle.batch e.phase e.lists
    (e.goes kit seats ready.fits (idle_bare plan was seats idle) moments log written)

pub returns-then-not-over-clause-kinds : goal.returns-then-not-over-clause-kinds
returns-then-not-over-clause-kinds g c = no_take c.args.self.now.cpu c.args.seats.now c.args.seats.now refl
