use Rattle.wbt_flusher.proofs.Common.{asked_more, asked_none, MeasuresBefore, sight}
use Rattle.std.proofs.Common.{◌≡◌, refl, ◌∙◌, arith, ℕ, length, subst}
use Rattle.wbt_flusher.proofs.Going.{goes_nowhere, at_more}
use Rattle.wbt_flusher.specs.Reads.{is_first}
use Rattle.wbt_flusher.proofs.Held.{measures_more}
use Rattle.wbt_flusher.proofs.Turning.{counts_after, no_counts}
use Rattle.wbt_flusher.proofs.plan.FlusherPlan.measure_all.Goals as goal

pub returns-then-not-self-clause-goes : goal.returns-then-not-self-clause-goes
returns-then-not-self-clause-goes g c told written has = goes_nowhere c.args.self.now c.args.hands.now.kit.now c.args.seats.now c.requires.fits told c.args.work.now c.args.pen.now.log written

pub returns-then-not-self-clause-asked : goal.returns-then-not-self-clause-asked
returns-then-not-self-clause-asked g c = asked_none c.args.self.now.cpu (g.G.Gate.said c.args.hands.now.gate.now) c.args.seats.now c.args.seats.now refl

pub returns-then-not-measure-clause-asked : goal.returns-then-not-measure-clause-asked
returns-then-not-measure-clause-asked g c = asked_more c.args.self.now.cpu (g.G.Gate.said c.args.hands.now.gate.now) c.args.seats.now c.loop-context.seats c.measure.new.seats c.loop-context.invariant.asked c.measure.ensures.asked

pub loop-context-init : goal.loop-context-init
loop-context-init g c = record {
  goes = λ told written has. goes_nowhere c.args.self.now c.args.hands.now.kit.now c.args.seats.now c.requires.fits told c.args.work.now c.args.pen.now.log written;
  fits = c.requires.fits;
  lists = c.requires.lists;
  debts = refl;
  only = record { phase = refl; batch = refl; faults = refl; hard = refl; waiting = refl; some_wait = refl; wheel = refl; places = refl };
  room = omega arith;
  left = omega arith;
  estimates = omega arith;
  measures = λ written. refl;
  asked = asked_none c.args.self.now.cpu (g.G.Gate.said c.args.hands.now.gate.now) c.args.seats.now c.args.seats.now refl;
  kinds = no_counts c.args.self.now.cpu c.args.seats.now c.args.seats.now refl;
}

pub returns-then-not-measure-clause-goes : goal.returns-then-not-measure-clause-goes
returns-then-not-measure-clause-goes g c =
    let l = c.loop-context in
    let m = c.measure in
    at_more c.args.now c.args.self.now c.args.hands.now.kit.now c.args.seats.now l.seats m.new.seats c.args.pen.now.log l.pen.log m.new.pen.log c.args.work.now l.work m.new.work l.invariant.goes m.ensures.goes

pub loop-context-preserved : goal.loop-context-preserved
loop-context-preserved g c =
    let l = c.loop-context in
    let m = c.measure in
    let e = m.ensures in
    let o = l.invariant.only in
    let room = l.invariant.room in
    let left = l.invariant.left in
    let more = e.room in
    let estimates = l.invariant.estimates in
    let more' = e.estimates in
    record {
      goes = at_more c.args.now c.args.self.now c.args.hands.now.kit.now c.args.seats.now l.seats m.new.seats c.args.pen.now.log l.pen.log m.new.pen.log c.args.work.now l.work m.new.work l.invariant.goes e.goes;
      fits = e.fits;
      lists = e.lists;
      debts = e.debts ∙ l.invariant.debts;
      only = record {
        phase = e.only_tallies.phase ∙ o.phase;
        batch = e.only_tallies.batch ∙ o.batch;
        faults = e.only_tallies.faults ∙ o.faults;
        hard = e.only_tallies.hard ∙ o.hard;
        waiting = e.only_tallies.waiting ∙ o.waiting;
        some_wait = e.only_tallies.some_wait ∙ o.some_wait;
        wheel = e.only_tallies.wheel ∙ o.wheel;
        places = e.only_tallies.places ∙ o.places;
      };
      room = omega arith;
      left = omega arith;
      estimates = omega arith;
      measures = λ written. measures_more c.args.self.now c.args.hands.now.kit.now c.args.now c.args.global.now l.context (sight c.args.work.now c.args.seats.now c.args.pen.now.log written)
          (sight l.work l.seats l.pen.log written) (sight m.new.work m.new.seats m.new.pen.log written) (l.invariant.measures written) (e.measures c.if-not-measure.false written);
      asked = asked_more c.args.self.now.cpu (g.G.Gate.said c.args.hands.now.gate.now) c.args.seats.now l.seats m.new.seats l.invariant.asked e.asked;
      kinds = counts_after c.args.self.now.cpu c.args.seats.now l.seats m.new.seats l.invariant.kinds e.kinds;
    }

pub returns-clause-measures : goal.returns-clause-measures
returns-clause-measures g c so written =
    let l = c.loop-context in
    is_first c.if-not-self.false (subst (λ (n : ℕ). MeasuresBefore c.args.self.now c.args.hands.now.kit.now c.args.now c.args.global.now n (sight c.args.work.now c.args.seats.now c.args.pen.now.log written) (sight l.work l.seats l.pen.log written))
    (let long : length c.as_slice.result.now ≡ length c.args.self.now.contexts = (λ i. length (c.as_slice.ensures i)) in omega arith) (l.invariant.measures written))

pub returns-then-not-measure-clause-stops : goal.returns-then-not-measure-clause-stops
returns-then-not-measure-clause-stops g c so written =
    let l = c.loop-context in
    let long : length c.as_slice.result.now ≡ length c.args.self.now.contexts = (λ i. length (c.as_slice.ensures i)) in
    let less = c.loop-context-test.true in
    record {
      leads = c.if-not-self.false;
      context = l.context;
      there = omega arith;
      between = sight l.work l.seats l.pen.log written;
      measured = l.invariant.measures written;
      stops = c.measure.ensures.stops c.if-not-measure.true written;
    }

-- ---- kinds of steps

pub returns-then-not-self-clause-kinds : goal.returns-then-not-self-clause-kinds
returns-then-not-self-clause-kinds g c = no_counts c.args.self.now.cpu c.args.seats.now c.args.seats.now refl

pub returns-then-not-measure-clause-kinds : goal.returns-then-not-measure-clause-kinds
returns-then-not-measure-clause-kinds g c = counts_after c.args.self.now.cpu c.args.seats.now c.loop-context.seats c.measure.new.seats c.loop-context.invariant.kinds c.measure.ensures.kinds
