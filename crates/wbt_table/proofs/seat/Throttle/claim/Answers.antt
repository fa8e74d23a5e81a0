use Rattle.std.proofs.Common.{◌≡◌, ℕ, Bool, true, List, sym, refl, ◌∙◌, subst}
use Rattle.wbt_table.proofs.Common.{CpuRecord, Setting, claim, record_after, setting, Changes, looked_at, times_in, bits_at}
use Rattle.wbt_table.specs.Calls.{tried, after_its_look, LogsTry}
use Rattle.wbt_table.proofs.Seating.{has_changed, changes_twice, logs_try}
use Rattle.wbt_table.proofs.Paying.{answered_at}
use Rattle.wbt_table.proofs.Unheld.{look_holds}
use Rattle.wbt_table.proofs.seat.Throttle.claim.Goals as goal

pub state-requires-2 : goal.state-requires-2
state-requires-2 g c = let h = c.requires.held in let f : CpuRecord → CpuRecord = looked_at (setting c.args.self.now.layout) c.args.cpu c.args.page c.look-first.result in
    record { held = (f h.0, has_changed c.args.cpu f c.args.seat.now c.look-first.new.seat h.0 c.look-first.ensures.makes.changes h.1) }

pub returns-then-not-may_step-2 : goal.returns-then-not-may_step-2
returns-then-not-may_step-2 g c = let s = c.state-2.ensures in (
  (
    s.0,
    s.1,
    subst (λ (z : ℕ × Bool). g.G.Gate.said c.args.gate.now c.args.cpu z.0 z.1) (λ i. (s.2.0 i, c.if-not-may_step-2.true i)) c.may_step-2.ensures,
  ),
  after_its_look c.look-first.result (sym c.is_claimable_at.ensures ∙ c.if-not-is_claimable_at.false) c.look-first.ensures.makes.changes c.look-first.ensures.makes.logs (answered_at (g.G.Gate.said c.args.gate.now c.args.cpu) c.args.seat.now.cpus c.args.cpu c.state.result.now.steps c.may_step.result true c.state.ensures.0 c.state.ensures.1 c.state.ensures.2.0
      c.if-not-may_step.false c.may_step.ensures),
)

pub exchange-second-requires-clause-may : goal.exchange-second-requires-clause-may
exchange-second-requires-clause-may g c = let h = c.requires.held in
    let f : CpuRecord → CpuRecord = looked_at (setting c.args.self.now.layout) c.args.cpu c.args.page c.look-first.result in (
      f h.0,
      has_changed c.args.cpu f c.args.seat.now c.look-first.new.seat h.0 c.look-first.ensures.makes.changes h.1,
      record {
        page_is = c.requires.page;
        looked = (refl, refl);
        found_is = refl;
        claimable = sym c.is_claimable_at.ensures ∙ c.if-not-is_claimable_at.false;
      },
    )

pub returns-then-second-first : goal.returns-then-second-first
returns-then-second-first g c = let set' : Setting = setting c.args.self.now.layout in
    let n : ℕ = c.look-first.result in
    let twice = changes_twice c.args.cpu (looked_at set' c.args.cpu c.args.page n) (record_after set' (claim c.args.cpu c.args.page) c.exchange-second.result)
    c.args.seat.now c.look-first.new.seat c.exchange-second.new.seat c.look-first.ensures.makes.changes c.exchange-second.ensures.makes.changes in
    let f : CpuRecord → CpuRecord = looked_at set' c.args.cpu c.args.page n in (
      n,
      sym c.is_claimable_at.ensures ∙ c.if-not-is_claimable_at.false,
      subst (λ (m : ℕ). Changes c.args.cpu (tried set' c.args.cpu c.args.page n m) c.args.seat.now c.exchange-second.new.seat) c.if-second-first.true twice,
      (λ r has. subst (λ (l : List ℕ). times_in c.args.page l ≡ 0) (look_holds set' c.args.page (bits_at n c.args.page) r)
          (c.exchange-second.ensures.unheld c.if-second-first.true (f r) (has_changed c.args.cpu f c.args.seat.now c.look-first.new.seat r c.look-first.ensures.makes.changes has))),
      subst (λ (m : ℕ). LogsTry set' c.args.cpu c.args.page n m c.args.seat.now c.exchange-second.new.seat) c.if-second-first.true
          (logs_try set' c.args.cpu c.args.page n c.exchange-second.result c.args.seat.now c.look-first.new.seat c.exchange-second.new.seat
          c.look-first.ensures.makes.logs c.exchange-second.ensures.makes.logs),
      (answered_at (g.G.Gate.said c.args.gate.now c.args.cpu) c.args.seat.now.cpus c.args.cpu c.state.result.now.steps c.may_step.result true c.state.ensures.0 c.state.ensures.1 c.state.ensures.2.0
          c.if-not-may_step.false c.may_step.ensures),
      (λ r has. answered_at (g.G.Gate.said c.args.gate.now c.args.cpu) c.look-first.new.seat.cpus c.args.cpu c.state-2.result.now.steps c.may_step-2.result true c.state-2.ensures.0 c.state-2.ensures.1
          c.state-2.ensures.2.0 c.if-not-may_step-2.false c.may_step-2.ensures (looked_at (setting c.args.self.now.layout) c.args.cpu c.args.page c.look-first.result r)
          (has_changed c.args.cpu (looked_at (setting c.args.self.now.layout) c.args.cpu c.args.page c.look-first.result) c.args.seat.now c.look-first.new.seat r c.look-first.ensures.makes.changes has)),
    )

pub returns : goal.returns
returns g c = let set' : Setting = setting c.args.self.now.layout in (
  sym c.is_claimable_at.ensures ∙ c.if-not-is_claimable_at.false,
  (λ e. c.if-second-first.false (sym e)),
  changes_twice c.args.cpu (looked_at set' c.args.cpu c.args.page c.look-first.result) (record_after set' (claim c.args.cpu c.args.page) c.exchange-second.result)
      c.args.seat.now c.look-first.new.seat c.exchange-second.new.seat c.look-first.ensures.makes.changes c.exchange-second.ensures.makes.changes,
  logs_try set' c.args.cpu c.args.page c.look-first.result c.exchange-second.result c.args.seat.now c.look-first.new.seat c.exchange-second.new.seat
      c.look-first.ensures.makes.logs c.exchange-second.ensures.makes.logs,
  (answered_at (g.G.Gate.said c.args.gate.now c.args.cpu) c.args.seat.now.cpus c.args.cpu c.state.result.now.steps c.may_step.result true c.state.ensures.0 c.state.ensures.1 c.state.ensures.2.0
      c.if-not-may_step.false c.may_step.ensures),
  (λ r has. answered_at (g.G.Gate.said c.args.gate.now c.args.cpu) c.look-first.new.seat.cpus c.args.cpu c.state-2.result.now.steps c.may_step-2.result true c.state-2.ensures.0 c.state-2.ensures.1
      c.state-2.ensures.2.0 c.if-not-may_step-2.false c.may_step-2.ensures (looked_at (setting c.args.self.now.layout) c.args.cpu c.args.page c.look-first.result r)
      (has_changed c.args.cpu (looked_at (setting c.args.self.now.layout) c.args.cpu c.args.page c.look-first.result) c.args.seat.now c.look-first.new.seat r c.look-first.ensures.makes.changes has)),
)
