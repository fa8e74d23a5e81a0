use Rattle.std.proofs.Common.{ℕ, Bool, true, None, false}
use Rattle.wbt_table.proofs.Common.{Event}
use Rattle.wbt_table.proofs.Paying.{answered_at, stop_pays, all_pays, add_pays}
use Rattle.wbt_table.proofs.seat.Throttle.pay_event.Goals as goal

pub returns-then-not-may_step : goal.returns-then-not-may_step
returns-then-not-may_step g c = let s = c.state.ensures in
    let said : ℕ → Bool → Type 0 = g.G.Gate.said c.args.gate.now c.args.cpu in
    stop_pays c.args.self.now.layout c.args.cpu c.args.slot said c.args.seat.now (record { counter = c.args.counter; debt = Event c.args.event }) c.requires.owes
    (answered_at said c.args.seat.now.cpus c.args.cpu c.state.result.now.steps c.may_step.result false s.0 s.1 s.2.0 c.if-not-may_step.true c.may_step.ensures)

pub returns-in-Some : goal.returns-in-Some
returns-in-Some g c = let s = c.state.ensures in add_pays c.args.self.now.layout c.args.cpu c.args.slot (g.G.Gate.said c.args.gate.now c.args.cpu) c.args.counter c.args.event c.add.ensures.made.0
    c.pay_fold.result c.args.seat.now c.add.new.seat c.pay_fold.new.seat c.requires.owes
    (answered_at (g.G.Gate.said c.args.gate.now c.args.cpu) c.args.seat.now.cpus c.args.cpu c.state.result.now.steps c.may_step.result true s.0 s.1 s.2.0 c.if-not-may_step.false c.may_step.ensures) c.add.ensures.made.1 c.pay_fold.ensures

pub returns-in-None : goal.returns-in-None
returns-in-None g c = let s = c.state.ensures in let said : ℕ → Bool → Type 0 = g.G.Gate.said c.args.gate.now c.args.cpu in
    add_pays c.args.self.now.layout c.args.cpu c.args.slot said c.args.counter c.args.event c.add.ensures.made.0
    (record { all = true; fold = None }) c.args.seat.now c.add.new.seat c.add.new.seat c.requires.owes
    (answered_at (g.G.Gate.said c.args.gate.now c.args.cpu) c.args.seat.now.cpus c.args.cpu c.state.result.now.steps c.may_step.result true s.0 s.1 s.2.0 c.if-not-may_step.false c.may_step.ensures) c.add.ensures.made.1
    (all_pays c.args.self.now.layout c.args.cpu c.args.slot said c.add.new.seat c.in-None.ensures.paid)
