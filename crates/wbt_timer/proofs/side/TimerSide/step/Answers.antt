use Rattle.std.proofs.Common.{◌≡◌, ℕ, ◌≤◌, ◌+◌, ◌*◌, length, sym, ap, ◌∙◌, refl, subst, arith}
use Rattle.wbt_table.specs.Layout.{domains}
use Rattle.wbt_timer.specs.Kinds.{CutsTurn}
use Rattle.wbt_timer.specs.Side.{Side, next_of}
use Rattle.wbt_timer.specs.Turn.{TimerHalts, TimerSteps}
use Rattle.wbt_timer.proofs.Asking.{asked_more, asked_none}
use Rattle.wbt_timer.proofs.Made.{taken_same}
use Rattle.wbt_timer.proofs.Turning.{as_many, few_periods, halted_side, halts, next_side, steps}
use Rattle.wbt_timer.proofs.side.TimerSide.step.Goals as goal

pub begin_each-requires-clause-few : goal.begin_each-requires-clause-few
begin_each-requires-clause-few g c =
    let inside = c.self.inside in
    let now = c.args.now in
    let old : Side = record { machine = inside.machine; last = inside.last; period = inside.period; domains = inside.domains.items } in
    let late : next_of old ≤ now = subst (λ (s : Side). next_of s ≤ now) (sym c.self.view_is) c.requires.late in
    let come = c.periods_by-come.result in
    let p = c.publish_each-through.ensures.all c.if-not-through.false in
    let one = c.publish_each-through.new in
    let many : length one.sides.items ≡ length inside.domains.items =
    as_many now come p.0 old one.sides.items one.sides.items c.args.seats.now one.seats one.seats c.args.log.now.items one.log.items one.log.items c.self.invariant late c.requires.moment
    c.periods_by-come.ensures.near p.1 c.publish_each-through.ensures.hards in
    omega (arith, many, c.self.invariant.few)

pub begin_each-requires-clause-there : goal.begin_each-requires-clause-there
begin_each-requires-clause-there g c =
    let inside = c.self.inside in
    let now = c.args.now in
    let old : Side = record { machine = inside.machine; last = inside.last; period = inside.period; domains = inside.domains.items } in
    let late : next_of old ≤ now = subst (λ (s : Side). next_of s ≤ now) (sym c.self.view_is) c.requires.late in
    let come = c.periods_by-come.result in
    let p = c.publish_each-through.ensures.all c.if-not-through.false in
    let one = c.publish_each-through.new in
    let many : length one.sides.items ≡ length inside.domains.items =
    as_many now come p.0 old one.sides.items one.sides.items c.args.seats.now one.seats one.seats c.args.log.now.items one.log.items one.log.items c.self.invariant late c.requires.moment
    c.periods_by-come.ensures.near p.1 c.publish_each-through.ensures.hards in
    many ∙ ap (λ (s : Side). length s.domains) c.self.view_is ∙ c.requires.domains.1

pub begin_each-requires-clause-owed : goal.begin_each-requires-clause-owed
begin_each-requires-clause-owed g c =
    let inside = c.self.inside in
    let now = c.args.now in
    let old : Side = record { machine = inside.machine; last = inside.last; period = inside.period; domains = inside.domains.items } in
    let late : next_of old ≤ now = subst (λ (s : Side). next_of s ≤ now) (sym c.self.view_is) c.requires.late in
    let come = c.periods_by-come.result in
    let p = c.publish_each-through.ensures.all c.if-not-through.false in
    let one = c.publish_each-through.new in
    few_periods now come p.0 old one.sides.items one.sides.items c.args.seats.now one.seats one.seats c.args.log.now.items one.log.items one.log.items c.self.invariant late c.requires.moment
    c.periods_by-come.ensures.near p.1 c.publish_each-through.ensures.hards

pub begin_each-requires-clause-room : goal.begin_each-requires-clause-room
begin_each-requires-clause-room g c =
    let inside = c.self.inside in
    let now = c.args.now in
    let old : Side = record { machine = inside.machine; last = inside.last; period = inside.period; domains = inside.domains.items } in
    let late : next_of old ≤ now = subst (λ (s : Side). next_of s ≤ now) (sym c.self.view_is) c.requires.late in
    let come = c.periods_by-come.result in
    let p = c.publish_each-through.ensures.all c.if-not-through.false in
    let one = c.publish_each-through.new in
    let many : length one.sides.items ≡ length inside.domains.items =
    as_many now come p.0 old one.sides.items one.sides.items c.args.seats.now one.seats one.seats c.args.log.now.items one.log.items one.log.items c.self.invariant late c.requires.moment
    c.periods_by-come.ensures.near p.1 c.publish_each-through.ensures.hards in
    let whole : length inside.domains.items ≡ length c.args.self.now.domains = ap (λ (s : Side). length s.domains) c.self.view_is in
    omega (arith, many, whole, c.requires.room, c.publish_each-through.ensures.room.0, c.publish_each-through.ensures.room.1)

pub invariant_of-self-2 : goal.invariant_of-self-2
invariant_of-self-2 g c =
    let inside = c.self.inside in
    let now = c.args.now in
    let old : Side = record { machine = inside.machine; last = inside.last; period = inside.period; domains = inside.domains.items } in
    let late : next_of old ≤ now = subst (λ (s : Side). next_of s ≤ now) (sym c.self.view_is) c.requires.late in
    let come = c.periods_by-come.result in
    let p = c.publish_each-through.ensures.all c.if-not-through.false in
    let one = c.publish_each-through.new in
    let two = c.begin_each.new in
    next_side now come p.0 old one.sides.items two.sides.items c.args.seats.now one.seats two.seats c.args.log.now.items one.log.items two.log.items c.self.invariant late c.requires.moment
    c.periods_by-come.ensures.near p.1 c.publish_each-through.ensures.hards c.begin_each.ensures.each

pub returns-clause-steps : goal.returns-clause-steps
returns-clause-steps g c is =
    let inside = c.self.inside in
    let now = c.args.now in
    let old : Side = record { machine = inside.machine; last = inside.last; period = inside.period; domains = inside.domains.items } in
    let late : next_of old ≤ now = subst (λ (s : Side). next_of s ≤ now) (sym c.self.view_is) c.requires.late in
    let come = c.periods_by-come.result in
    let p = c.publish_each-through.ensures.all c.if-not-through.false in
    let one = c.publish_each-through.new in
    let two = c.begin_each.new in
    let new : Side = record { machine = inside.machine; last = now; period = inside.period + 3000 * come; domains = two.sides.items } in
    subst (λ (s : Side). TimerSteps now s new c.args.seats.now two.seats c.args.log.now.items two.log.items) c.self.view_is
    (steps now come p.0 old new one.sides.items two.sides.items c.args.seats.now one.seats two.seats c.args.log.now.items one.log.items two.log.items c.self.invariant late
    c.periods_by-come.ensures.value p.1 c.begin_each.ensures.each refl)

-- where the gate stopped it

pub invariant_of-self : goal.invariant_of-self
invariant_of-self g c =
    let inside = c.self.inside in
    let now = c.args.now in
    let old : Side = record { machine = inside.machine; last = inside.last; period = inside.period; domains = inside.domains.items } in
    let late : next_of old ≤ now = subst (λ (s : Side). next_of s ≤ now) (sym c.self.view_is) c.requires.late in
    let p = c.publish_each-through.ensures.some c.if-not-through.true in
    let one = c.publish_each-through.new in
    let new : Side = record { machine = inside.machine; last = now; period = inside.period; domains = one.sides.items } in
    halted_side now p.0 old new one.sides.items c.args.seats.now one.seats c.args.log.now.items one.log.items c.self.invariant late p.1 refl c.requires.moment c.publish_each-through.ensures.hards

pub returns-then-not-through-clause-halts : goal.returns-then-not-through-clause-halts
returns-then-not-through-clause-halts g c is =
    let inside = c.self.inside in
    let now = c.args.now in
    let old : Side = record { machine = inside.machine; last = inside.last; period = inside.period; domains = inside.domains.items } in
    let late : next_of old ≤ now = subst (λ (s : Side). next_of s ≤ now) (sym c.self.view_is) c.requires.late in
    let p = c.publish_each-through.ensures.some c.if-not-through.true in
    let one = c.publish_each-through.new in
    let new : Side = record { machine = inside.machine; last = now; period = inside.period; domains = one.sides.items } in
    subst (λ (s : Side). TimerHalts now s new c.args.seats.now one.seats c.args.log.now.items one.log.items) c.self.view_is
    (halts now p.0 old new one.sides.items c.args.seats.now one.seats c.args.log.now.items one.log.items c.self.invariant late p.1 refl)

-- the gate

pub returns-clause-asked : goal.returns-clause-asked
returns-clause-asked g c =
    let kit = c.args.kit.now in
    let said = g.G.Gate.said c.args.gate.now kit.throttle.layout.cpus in
    let one = c.publish_each-through.new in
    let two = c.begin_each.new in
    asked_more kit said c.args.seats.now one.seats two.seats c.publish_each-through.ensures.asked (asked_none kit said one.seats two.seats c.begin_each.ensures.each.kept.cpu)

-- the kinds of its steps

pub returns-clause-takes_turn : goal.returns-clause-takes_turn
returns-clause-takes_turn g c is sealed =
    let one = c.publish_each-through.new in
    let two = c.begin_each.new in
    let many : length c.self.inside.domains.items ≡ domains c.args.kit.now.throttle.layout = ap (λ (s : Side). length s.domains) c.self.view_is ∙ c.requires.domains.0 in
    taken_same (length c.self.inside.domains.items) (domains c.args.kit.now.throttle.layout) c.args.seats.now one.seats two.seats many c.begin_each.ensures.each.kept.cpu
    (c.publish_each-through.ensures.takes_turn c.if-not-through.false sealed)

pub returns-then-not-through-clause-cuts_turn : goal.returns-then-not-through-clause-cuts_turn
returns-then-not-through-clause-cuts_turn g c is sealed =
    let many : length c.self.inside.domains.items ≡ domains c.args.kit.now.throttle.layout = ap (λ (s : Side). length s.domains) c.self.view_is ∙ c.requires.domains.0 in
    subst (λ (n : ℕ). CutsTurn n c.args.seats.now c.publish_each-through.new.seats) many (c.publish_each-through.ensures.cuts_turn c.if-not-through.true sealed)
