use Rattle.std.proofs.Common.{ℕ, ◌+◌, Bool, ◌≡◌, ◌∙◌, to_z-of_z, true, false}
use Rattle.wbt_table.proofs.Common.{version_in, FoldDue}
use Rattle.wbt_table.proofs.Paying.{answered_at, stop_pays, fold_pays}
use Rattle.wbt_table.proofs.seat.Throttle.pay_fold.Goals as goal

pub returns-then-not-may_step : goal.returns-then-not-may_step
returns-then-not-may_step g c = let s = c.state.ensures in
    let said : ℕ → Bool → Type 0 = g.G.Gate.said c.args.gate.now c.args.cpu in
    stop_pays c.args.self.now.layout c.args.cpu c.args.slot said c.args.seat.now (record { counter = c.args.counter; debt = FoldDue }) (c.requires.owes.0, c.requires.owes.1, c.requires.owes.2.0)
    (answered_at said c.args.seat.now.cpus c.args.cpu c.state.result.now.steps c.may_step.result false s.0 s.1 s.2.0 c.if-not-may_step.true c.may_step.ensures)

pub returns : goal.returns
returns g c = let s = c.state.ensures in let m = c.fold-fold.ensures.made in
    let told : c.fold-fold.result ≡ record { counter = c.args.counter; version = version_in m.0 + 1; delta = c.args.delta }
    = m.1 ∙ (λ i. record { counter = c.args.counter; version = version_in m.0 + 1; delta = to_z-of_z c.ranges.delta i }) in
    fold_pays c.args.self.now.layout c.args.cpu c.args.slot (g.G.Gate.said c.args.gate.now c.args.cpu) c.args.counter c.args.delta m.0
    c.pay_clear.result c.fold-fold.result c.args.seat.now c.fold-fold.new.seat c.pay_clear.new.seat c.requires.owes told
    (answered_at (g.G.Gate.said c.args.gate.now c.args.cpu) c.args.seat.now.cpus c.args.cpu c.state.result.now.steps c.may_step.result true s.0 s.1 s.2.0 c.if-not-may_step.false c.may_step.ensures) m.2 c.pay_clear.ensures
