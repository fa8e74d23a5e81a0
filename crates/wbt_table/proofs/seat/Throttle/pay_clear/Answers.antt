use Rattle.std.proofs.Common.{ℕ, Bool, true, false}
use Rattle.wbt_table.proofs.Common.{ClearDue}
use Rattle.wbt_table.proofs.Paying.{answered_at, stop_pays, clear_pays}
use Rattle.wbt_table.proofs.seat.Throttle.pay_clear.Goals as goal

pub returns-then-not-may_step : goal.returns-then-not-may_step
returns-then-not-may_step g c = let s = c.state.ensures in
    let said : ℕ → Bool → Type 0 = g.G.Gate.said c.args.gate.now c.args.cpu in
    stop_pays c.args.self.now.layout c.args.cpu c.args.slot said c.args.seat.now (record { counter = c.args.counter; debt = ClearDue c.args.folded }) c.requires.owes
    (answered_at said c.args.seat.now.cpus c.args.cpu c.state.result.now.steps c.may_step.result false s.0 s.1 s.2.0 c.if-not-may_step.true c.may_step.ensures)

pub returns : goal.returns
returns g c = let s = c.state.ensures in clear_pays c.args.self.now.layout c.args.cpu c.args.slot (g.G.Gate.said c.args.gate.now c.args.cpu) c.args.counter c.args.folded c.clear.ensures.made.0
    c.args.seat.now c.clear.new.seat c.requires.owes (answered_at (g.G.Gate.said c.args.gate.now c.args.cpu) c.args.seat.now.cpus c.args.cpu c.state.result.now.steps c.may_step.result true s.0 s.1 s.2.0 c.if-not-may_step.false c.may_step.ensures) c.clear.ensures.made.1 c.clear.ensures.paid
