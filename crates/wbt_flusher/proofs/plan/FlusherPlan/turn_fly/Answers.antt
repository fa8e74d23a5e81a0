use Rattle.wbt_flusher.proofs.Common.{asked_none, wait_of, no_moments, sight, Resting}
use Rattle.std.proofs.Common.{None, false, refl, sym, ap}
use Rattle.wbt_flusher.proofs.Ending.{ends_at_once, ends_undone, answers_by, told_none, come_by, rests_here}
use Rattle.wbt_flusher.specs.Took.{flies}
use Rattle.wbt_flusher.specs.Cut as cut
use Rattle.wbt_flusher.proofs.Turning.{turn_rests}
use Rattle.wbt_flusher.proofs.plan.FlusherPlan.turn_fly.Goals as goal

pub returns-then-not-has_landed-clause-answers : goal.returns-then-not-has_landed-clause-answers
returns-then-not-has_landed-clause-answers g c drain written =
    rests_here c.args.self.now c.args.hands.now.kit.now drain (g.C.Clock.told c.args.hands.now.clock.now) c.told_moment-now.result c.args.flight.until c.args.work.now c.args.seats.now c.args.pen.now.log written c.requires.ready
    c.told_moment-now.ensures.told (sym (ap (wait_of drain) c.requires.phase)) (c.has_landed.ensures.flies.0 c.if-not-has_landed.true)

pub returns-then-not-has_landed-clause-asked : goal.returns-then-not-has_landed-clause-asked
returns-then-not-has_landed-clause-asked g c = asked_none c.args.self.now.cpu (g.G.Gate.said c.args.hands.now.gate.now) c.args.seats.now c.args.seats.now refl

pub returns-clause-answers : goal.returns-clause-answers
returns-clause-answers g c drain written =
    let told = g.C.Clock.told c.args.hands.now.clock.now in
    answers_by c.args.self.now c.args.hands.now.kit.now drain told (g.G.Gate.said c.args.hands.now.gate.now) ⊥ c.turn_flight.result
    (sight c.args.work.now c.args.seats.now c.args.pen.now.log written) (sight c.turn_flight.new.work c.turn_flight.new.seats c.turn_flight.new.pen.log written) no_moments (told_none told) (λ _. refl)
    (come_by told (wait_of drain c.args.work.now.phase) c.args.flight.until c.told_moment-now.result (ap (wait_of drain) c.requires.phase) c.told_moment-now.ensures.told (c.has_landed.ensures.landed.0 c.if-not-has_landed.false))
    (c.turn_flight.ensures.ends drain no_moments written)

pub returns-clause-took : goal.returns-clause-took
returns-clause-took g c is drain written = flies (record {
  flight = c.args.flight;
  phase = c.requires.phase;
  now = c.told_moment-now.result;
  was_told = c.told_moment-now.ensures.told;
  come = (c.has_landed.ensures.landed.0 c.if-not-has_landed.false);
  page = c.turn_flight.ensures.lands is written;
})

pub returns-clause-halts : goal.returns-clause-halts
returns-clause-halts g c is drain written =
    cut.flies c.args.flight c.requires.phase c.told_moment-now.result c.told_moment-now.ensures.told (c.has_landed.ensures.landed.0 c.if-not-has_landed.false) (c.turn_flight.ensures.halts is written)

pub returns-clause-waits : goal.returns-clause-waits
returns-clause-waits g c n u is written =
    let t = c.turn_flight in
    absurd (ends_at_once c.args.self.now c.args.hands.now.kit.now false no_moments (g.G.Gate.said c.args.hands.now.gate.now) ⊥ t.result (sight c.args.work.now c.args.seats.now c.args.pen.now.log written)
    (sight t.new.work t.new.seats t.new.pen.log written) n u (t.ensures.ends false no_moments written) is)

pub returns-clause-undone : goal.returns-clause-undone
returns-clause-undone g c is =
    let t = c.turn_flight in
    ends_undone c.args.self.now c.args.hands.now.kit.now no_moments (g.G.Gate.said c.args.hands.now.gate.now) ⊥ t.result (sight c.args.work.now c.args.seats.now c.args.pen.now.log None)
    (sight t.new.work t.new.seats t.new.pen.log None) (t.ensures.ends false no_moments None) is

pub returns-then-not-has_landed-clause-kinds : goal.returns-then-not-has_landed-clause-kinds
returns-then-not-has_landed-clause-kinds g c = turn_rests c.args.self.now.cpu c.args.self.now.domains (Resting c.told_moment-now.result c.args.flight.until) c.args.seats.now c.args.seats.now refl
