use Rattle.wbt_flusher.proofs.Common.{asked_more, sight, Halted}
use Rattle.std.proofs.Common.{◌∷◌, false, refl, ◌∙◌}
use Rattle.wbt_flusher.specs.Loads.{AnyOver}
use Rattle.wbt_flusher.specs.declared.work.FlusherWork.{FlusherWork}
use Rattle.wbt_flusher.proofs.Ending.{idle_stands, ends_after}
use Rattle.wbt_flusher.proofs.Measured.{measured, ready_measured, idle_measured}
use Rattle.wbt_flusher.proofs.Weighing.{only_more, over_both, weighed}
use Rattle.wbt_flusher.specs.Cut.{at_a_context, at_a_count, at_a_domain, at_its_inode}
use Rattle.wbt_flusher.proofs.Turning.{counts_after, no_take, test_cut, turn_tests}
use Rattle.wbt_flusher.proofs.plan.FlusherPlan.turn_idle.Goals as goal

pub returns-in-None-clause-ends : goal.returns-in-None-clause-ends
returns-in-None-clause-ends g c moments written has = record { went = c.test.ensures.goes moments c.args.work.now c.args.pen.now.log written; stands = idle_stands c.args.work.now.phase c.requires.idle.until c.requires.idle.kept c.requires.idle.phase; stopped = c.in-None.ensures.stopped }

pub returns-in-None-clause-halts : goal.returns-in-None-clause-halts
returns-in-None-clause-halts g c is written = at_a_domain c.in-None.ensures.part refl refl

pub returns-then-not-measure_all-clause-asked : goal.returns-then-not-measure_all-clause-asked
returns-then-not-measure_all-clause-asked g c = asked_more c.args.self.now.cpu (g.G.Gate.said c.args.hands.now.gate.now) c.args.seats.now c.test.new.seats c.measure_all.new.seats c.test.ensures.asked c.measure_all.ensures.asked

pub returns-then-not-measure_all-clause-ends : goal.returns-then-not-measure_all-clause-ends
returns-then-not-measure_all-clause-ends g c moments written has =
    let m = c.measure_all in
    let was = c.args.work.now in
    let hard : FlusherWork = record { phase = was.phase; batch = was.batch; faults = was.faults; hard = c.in-Some.test.global.limits.hard; waiting = was.waiting; some_wait = was.some_wait; tallies = was.tallies; wheel = was.wheel; places = was.places } in
    let idle = idle_measured was hard m.new.work refl refl m.ensures.only_tallies c.requires.idle in
    record {
      went = measured c.args.now c.args.self.now c.args.hands.now.kit.now c.args.seats.now c.test.new.seats m.new.seats c.args.pen.now.log m.new.pen.log was hard m.new.work c.test.ensures.goes c.test.ensures.fits refl refl refl refl refl m.ensures.goes moments written has;
      stands = idle_stands m.new.work.phase idle.until idle.kept idle.phase;
      stopped = m.ensures.stopped c.if-not-measure_all.true;
    }

pub returns-then-not-measure_all-clause-halts : goal.returns-then-not-measure_all-clause-halts
returns-then-not-measure_all-clause-halts g c is written =
    at_a_context c.in-Some.test c.test.new.seats c.in-Some.ensures.tested (c.measure_all.ensures.stops c.if-not-measure_all.true written)

pub returns-in-None-weigh_all-clause-asked : goal.returns-in-None-weigh_all-clause-asked
returns-in-None-weigh_all-clause-asked g c =
    asked_more c.args.self.now.cpu (g.G.Gate.said c.args.hands.now.gate.now) c.args.seats.now c.measure_all.new.seats c.weigh_all.new.seats
    (asked_more c.args.self.now.cpu (g.G.Gate.said c.args.hands.now.gate.now) c.args.seats.now c.test.new.seats c.measure_all.new.seats c.test.ensures.asked c.measure_all.ensures.asked) c.weigh_all.ensures.asked

pub returns-in-None-weigh_all-clause-ends : goal.returns-in-None-weigh_all-clause-ends
returns-in-None-weigh_all-clause-ends g c moments written has =
    let plan = c.args.self.now in
    let kit = c.args.hands.now.kit.now in
    let m = c.measure_all in
    let w = c.weigh_all in
    let was = c.args.work.now in
    let hard : FlusherWork = record { phase = was.phase; batch = was.batch; faults = was.faults; hard = c.in-Some.test.global.limits.hard; waiting = was.waiting; some_wait = was.some_wait; tallies = was.tallies; wheel = was.wheel; places = was.places } in
    let only = only_more hard m.new.work w.new.work m.ensures.only_tallies w.ensures.only_tallies in
    let goes = weighed c.args.now plan kit c.args.seats.now m.new.seats w.new.seats c.args.pen.now.log m.new.pen.log was m.new.work w.new.work
    (measured c.args.now plan kit c.args.seats.now c.test.new.seats m.new.seats c.args.pen.now.log m.new.pen.log was hard m.new.work c.test.ensures.goes c.test.ensures.fits refl refl refl refl refl m.ensures.goes) w.ensures.goes in
    let idle = idle_measured was hard w.new.work refl refl only c.requires.idle in
    record { went = goes moments written has; stands = idle_stands w.new.work.phase idle.until idle.kept idle.phase; stopped = c.in-None-weigh_all.ensures.stopped }

pub returns-in-None-weigh_all-clause-halts : goal.returns-in-None-weigh_all-clause-halts
returns-in-None-weigh_all-clause-halts g c is written =
    let m = c.measure_all in
    at_a_count c.in-Some.test c.test.new.seats c.in-Some.ensures.tested (sight m.new.work m.new.seats m.new.pen.log written) (m.ensures.measures c.if-not-measure_all.false written)
    (c.in-None-weigh_all.ensures.stops m.new.pen.log written)

pub decide-requires-clause-ready : goal.decide-requires-clause-ready
decide-requires-clause-ready g c =
    let plan = c.args.self.now in
    let kit = c.args.hands.now.kit.now in
    let m = c.measure_all in
    let w = c.weigh_all in
    let was = c.args.work.now in
    let hard : FlusherWork = record { phase = was.phase; batch = was.batch; faults = was.faults; hard = c.in-Some.test.global.limits.hard; waiting = was.waiting; some_wait = was.some_wait; tallies = was.tallies; wheel = was.wheel; places = was.places } in
    let only = only_more hard m.new.work w.new.work m.ensures.only_tallies w.ensures.only_tallies in
    let goes = weighed c.args.now plan kit c.args.seats.now m.new.seats w.new.seats c.args.pen.now.log m.new.pen.log was m.new.work w.new.work
    (measured c.args.now plan kit c.args.seats.now c.test.new.seats m.new.seats c.args.pen.now.log m.new.pen.log was hard m.new.work c.test.ensures.goes c.test.ensures.fits refl refl refl refl refl m.ensures.goes) w.ensures.goes in
    ready_measured c.args.now plan kit c.args.seats.now w.new.seats c.args.pen.now.log m.new.pen.log was hard w.new.work goes refl refl refl only w.ensures.lists c.requires.ready (w.ensures.debts ∙ m.ensures.debts ∙ c.test.ensures.debts)

pub decide-requires-clause-idle : goal.decide-requires-clause-idle
decide-requires-clause-idle g c =
    let m = c.measure_all in
    let w = c.weigh_all in
    let was = c.args.work.now in
    let hard : FlusherWork = record { phase = was.phase; batch = was.batch; faults = was.faults; hard = c.in-Some.test.global.limits.hard; waiting = was.waiting; some_wait = was.some_wait; tallies = was.tallies; wheel = was.wheel; places = was.places } in
    idle_measured was hard w.new.work refl refl (only_more hard m.new.work w.new.work m.ensures.only_tallies w.ensures.only_tallies) c.requires.idle

pub returns-in-Some-weigh_all-clause-asked : goal.returns-in-Some-weigh_all-clause-asked
returns-in-Some-weigh_all-clause-asked g c =
    asked_more c.args.self.now.cpu (g.G.Gate.said c.args.hands.now.gate.now) c.args.seats.now c.weigh_all.new.seats c.decide.new.seats
    (asked_more c.args.self.now.cpu (g.G.Gate.said c.args.hands.now.gate.now) c.args.seats.now c.measure_all.new.seats c.weigh_all.new.seats
    (asked_more c.args.self.now.cpu (g.G.Gate.said c.args.hands.now.gate.now) c.args.seats.now c.test.new.seats c.measure_all.new.seats c.test.ensures.asked c.measure_all.ensures.asked) c.weigh_all.ensures.asked) c.decide.ensures.asked

pub returns-in-Some-weigh_all-clause-ends : goal.returns-in-Some-weigh_all-clause-ends
returns-in-Some-weigh_all-clause-ends g c moments written has =
    let plan = c.args.self.now in
    let kit = c.args.hands.now.kit.now in
    let m = c.measure_all in
    let w = c.weigh_all in
    let was = c.args.work.now in
    let hard : FlusherWork = record { phase = was.phase; batch = was.batch; faults = was.faults; hard = c.in-Some.test.global.limits.hard; waiting = was.waiting; some_wait = was.some_wait; tallies = was.tallies; wheel = was.wheel; places = was.places } in
    let only = only_more hard m.new.work w.new.work m.ensures.only_tallies w.ensures.only_tallies in
    let goes = weighed c.args.now plan kit c.args.seats.now m.new.seats w.new.seats c.args.pen.now.log m.new.pen.log was m.new.work w.new.work
    (measured c.args.now plan kit c.args.seats.now c.test.new.seats m.new.seats c.args.pen.now.log m.new.pen.log was hard m.new.work c.test.ensures.goes c.test.ensures.fits refl refl refl refl refl m.ensures.goes) w.ensures.goes in
    let d = c.decide in
    ends_after plan kit moments (g.G.Gate.said c.args.hands.now.gate.now) (sight was c.args.seats.now c.args.pen.now.log written) (sight w.new.work w.new.seats m.new.pen.log written) (sight d.new.work d.new.seats d.new.pen.log written)
    (goes moments written has) false ⊥ d.result (d.ensures.ends moments written has)

pub returns-in-Some-weigh_all-clause-tests : goal.returns-in-Some-weigh_all-clause-tests
returns-in-Some-weigh_all-clause-tests g c is written =
    let m = c.measure_all in
    let w = c.weigh_all in
    let log = m.new.pen.log in
    let test = c.in-Some.test in
    let tested = c.in-Some.ensures.tested in
    let own = c.in-Some-weigh_all.own in
    record {
      test = test;
      read = c.test.new.seats;
      tested = tested;
      measured = sight m.new.work m.new.seats log written;
      measures = m.ensures.measures c.if-not-measure_all.false written;
      own = own;
      weighed = sight w.new.work w.new.seats log written;
      weighs = c.in-Some-weigh_all.ensures.weighs log written;
      decides = c.decide.ensures.decides is (tested.global ∷ tested.others) own written (over_both test.over own c.is_or_was-over.result (AnyOver (tested.global ∷ tested.others)) c.is_or_was-over.ensures tested.over_is);
    }

pub returns-in-Some-weigh_all-clause-halts : goal.returns-in-Some-weigh_all-clause-halts
returns-in-Some-weigh_all-clause-halts g c is written =
    let m = c.measure_all in
    let w = c.weigh_all in
    let test = c.in-Some.test in
    let tested = c.in-Some.ensures.tested in
    let own = c.in-Some-weigh_all.own in
    at_its_inode test c.test.new.seats tested (sight m.new.work m.new.seats m.new.pen.log written) (m.ensures.measures c.if-not-measure_all.false written)
    own (sight w.new.work w.new.seats m.new.pen.log written) (c.in-Some-weigh_all.ensures.weighs m.new.pen.log written)
    c.is_or_was-over.result (over_both test.over own c.is_or_was-over.result (AnyOver (tested.global ∷ tested.others)) c.is_or_was-over.ensures tested.over_is)
    (c.decide.ensures.halts is written)

-- ---- kinds of steps

pub returns-in-None-clause-kinds : goal.returns-in-None-clause-kinds
returns-in-None-clause-kinds g c = test_cut c.args.self.now.cpu c.args.self.now.domains c.args.seats.now c.test.new.seats c.in-None.ensures.cut

pub returns-then-not-measure_all-clause-kinds : goal.returns-then-not-measure_all-clause-kinds
returns-then-not-measure_all-clause-kinds g c =
    let m = c.measure_all in
    turn_tests c.args.self.now.cpu c.args.self.now.domains Halted c.args.seats.now c.test.new.seats m.new.seats m.new.seats c.in-Some.ensures.kinds m.ensures.kinds (no_take c.args.self.now.cpu m.new.seats m.new.seats refl)

pub returns-in-None-weigh_all-clause-kinds : goal.returns-in-None-weigh_all-clause-kinds
returns-in-None-weigh_all-clause-kinds g c =
    let m = c.measure_all in
    let w = c.weigh_all in
    turn_tests c.args.self.now.cpu c.args.self.now.domains Halted c.args.seats.now c.test.new.seats w.new.seats w.new.seats c.in-Some.ensures.kinds
    (counts_after c.args.self.now.cpu c.test.new.seats m.new.seats w.new.seats m.ensures.kinds w.ensures.kinds) (no_take c.args.self.now.cpu w.new.seats w.new.seats refl)

pub returns-in-Some-weigh_all-clause-kinds : goal.returns-in-Some-weigh_all-clause-kinds
returns-in-Some-weigh_all-clause-kinds g c =
    let m = c.measure_all in
    let w = c.weigh_all in
    turn_tests c.args.self.now.cpu c.args.self.now.domains c.decide.result c.args.seats.now c.test.new.seats w.new.seats c.decide.new.seats c.in-Some.ensures.kinds
    (counts_after c.args.self.now.cpu c.test.new.seats m.new.seats w.new.seats m.ensures.kinds w.ensures.kinds) c.decide.ensures.kinds
