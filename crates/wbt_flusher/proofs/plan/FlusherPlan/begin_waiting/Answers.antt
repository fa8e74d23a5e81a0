use Rattle.std.proofs.Common.{ap, ◌∙◌}
use Rattle.wbt_flusher.specs.declared.work.FlusherWork.{FlusherWork}
use Rattle.wbt_flusher.proofs.Common.{sight}
use Rattle.wbt_flusher.proofs.Ending.{idle_stands, steps_by}
use Rattle.wbt_flusher.proofs.Going.{owes_still}
use Rattle.wbt_flusher.proofs.plan.FlusherPlan.begin_waiting.Goals as goal

pub returns-then-begin_scan-clause-ends : goal.returns-then-begin_scan-clause-ends
returns-then-begin_scan-clause-ends g c drain moments log written =
    let e = c.begin_scan.ensures in
    let ready = c.requires.ready in
    steps_by c.args.self.now c.args.hands.now.kit.now moments (sight c.args.work.now c.args.seats.now log written) (sight c.begin_scan.new.work c.begin_scan.new.seats log written)
    (e.goes moments log written) ready (e.steady c.if-begin_scan.true) (owes_still c.args.self.now c.args.seats.now c.begin_scan.new.seats e.debts ready.owes_none)

pub returns-clause-ends : goal.returns-clause-ends
returns-clause-ends g c drain moments log written =
    let e = c.begin_scan.ensures in
    let idle = c.requires.idle in
    record { went = e.goes moments log written; stands = idle_stands c.begin_scan.new.work.phase idle.until idle.kept (ap (λ (w : FlusherWork). w.phase) (e.same c.if-begin_scan.false) ∙ idle.phase); stopped = e.stopped c.if-begin_scan.false }
