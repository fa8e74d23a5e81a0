use Rattle.std.proofs.Common.{ℕ, Bool, false, None}
use Rattle.std.proofs.lemmas.Bool.{not-true, not-false}
use Rattle.wbt_table.proofs.Common.{CpuRecord, Setting, setting, Seated}
use Rattle.wbt_table.specs.declared.state.Slot.TheVariants.{First, Second, Third}
use Rattle.wbt_table.specs.declared.settle.Paid.{Paid}
use Rattle.wbt_table.specs.Calls.{SettlesLogged}
use Rattle.wbt_table.specs.Settle.{PaysLogged}
use Rattle.wbt_table.proofs.Slots.{all_from}
use Rattle.wbt_table.proofs.Paying.{comes_as, comes_has, comes_twice, settles_first, settles_second, settles_third}
use Rattle.wbt_table.proofs.seat.Throttle.settle.Goals as goal

pub pay-first-requires-clause-held : goal.pay-first-requires-clause-held
pay-first-requires-clause-held g c = let h = c.requires.held in (h.0, h.1, all_from h.0.debts)

pub returns-then-not-first : goal.returns-then-not-first
returns-then-not-first g c =
    let said : ℕ → Bool → Type 0 = g.G.Gate.said c.args.gate.now c.args.cpu in
    let set' : Setting = setting c.args.self.now.layout in
    let p : Paid = c.pay-first.result in
    let old : Seated = c.args.seat.now in
    let mid : Seated = c.pay-first.new.seat in
    comes_as c.args.cpu (PaysLogged set' c.args.cpu First said p old mid)
    (SettlesLogged set' c.args.cpu said (record { all = false; first = p.fold; second = None; third = None }) old mid) old mid c.pay-first.ensures
    (λ r q pays. settles_first set' c.args.cpu said p old mid r q pays (not-true c.pay-first.result.all c.if-not-first.true))

pub pay-second-requires-clause-held : goal.pay-second-requires-clause-held
pay-second-requires-clause-held g c = let h = c.requires.held in
    let said : ℕ → Bool → Type 0 = g.G.Gate.said c.args.gate.now c.args.cpu in
    let set' : Setting = setting c.args.self.now.layout in
    let old : Seated = c.args.seat.now in
    let mid : Seated = c.pay-first.new.seat in
    let t = comes_has c.args.cpu (PaysLogged set' c.args.cpu First said c.pay-first.result old mid) old mid h.0 c.pay-first.ensures h.1 in
    (t.0, t.2, t.1.0.all_paid (not-false c.pay-first.result.all c.if-not-first.false))

pub returns-then-not-second : goal.returns-then-not-second
returns-then-not-second g c =
    let said : ℕ → Bool → Type 0 = g.G.Gate.said c.args.gate.now c.args.cpu in
    let set' : Setting = setting c.args.self.now.layout in
    let p : Paid = c.pay-first.result in
    let p' : Paid = c.pay-second.result in
    let old : Seated = c.args.seat.now in
    let mid : Seated = c.pay-first.new.seat in
    let new : Seated = c.pay-second.new.seat in
    comes_twice c.args.cpu (PaysLogged set' c.args.cpu First said p old mid) (PaysLogged set' c.args.cpu Second said p' mid new)
    (SettlesLogged set' c.args.cpu said (record { all = false; first = p.fold; second = p'.fold; third = None }) old new)
    old mid new c.pay-first.ensures c.pay-second.ensures
    (λ r q q' has first second. settles_second set' c.args.cpu said p old mid r q first p' new q' second (not-true c.pay-second.result.all c.if-not-second.true))

pub pay-third-requires-clause-held : goal.pay-third-requires-clause-held
pay-third-requires-clause-held g c = let h = c.requires.held in
    let said : ℕ → Bool → Type 0 = g.G.Gate.said c.args.gate.now c.args.cpu in
    let set' : Setting = setting c.args.self.now.layout in
    let old : Seated = c.args.seat.now in
    let mid : Seated = c.pay-first.new.seat in
    let new : Seated = c.pay-second.new.seat in
    let t = comes_has c.args.cpu (PaysLogged set' c.args.cpu First said c.pay-first.result old mid) old mid h.0 c.pay-first.ensures h.1 in
    let u = comes_has c.args.cpu (PaysLogged set' c.args.cpu Second said c.pay-second.result mid new) mid new t.0 c.pay-second.ensures t.2 in
    (u.0, u.2, u.1.0.all_paid (not-false c.pay-second.result.all c.if-not-second.false))

pub returns : goal.returns
returns g c =
    let said : ℕ → Bool → Type 0 = g.G.Gate.said c.args.gate.now c.args.cpu in
    let set' : Setting = setting c.args.self.now.layout in
    let p : Paid = c.pay-first.result in
    let p' : Paid = c.pay-second.result in
    let p'' : Paid = c.pay-third.result in
    let old : Seated = c.args.seat.now in
    let mid : Seated = c.pay-first.new.seat in
    let mid' : Seated = c.pay-second.new.seat in
    let new : Seated = c.pay-third.new.seat in
    let P : CpuRecord → CpuRecord → Type 0 = PaysLogged set' c.args.cpu First said p old mid in
    let Q : CpuRecord → CpuRecord → Type 0 = λ r last. (q : CpuRecord) × PaysLogged set' c.args.cpu Second said p' mid mid' r q × PaysLogged set' c.args.cpu Third said p'' mid' new q last in
    let rest = comes_twice c.args.cpu (PaysLogged set' c.args.cpu Second said p' mid mid') (PaysLogged set' c.args.cpu Third said p'' mid' new) Q
    mid mid' new c.pay-second.ensures c.pay-third.ensures (λ r q last has second third. (q, second, third)) in
    comes_twice c.args.cpu P Q (SettlesLogged set' c.args.cpu said (record { all = p''.all; first = p.fold; second = p'.fold; third = p''.fold }) old new)
    old mid new c.pay-first.ensures rest
    (λ r q last has first more. settles_third set' c.args.cpu said p old mid r q first p' mid' more.0 more.1 p'' new last more.2)
