use Rattle.wbt_flusher.proofs.Common.{asked_more, asked_none, Seats, sight, WeighsBefore}
use Rattle.std.proofs.Common.{◌≡◌, refl, sym, ◌∙◌, arith, ℕ, length, subst}
use Rattle.wbt_flusher.specs.declared.work.FlusherWork.{FlusherWork}
use Rattle.wbt_flusher.proofs.Going.{goes_nowhere, kept_more}
use Rattle.wbt_flusher.proofs.Weighing.{only_more, weighs_more}
use Rattle.wbt_flusher.specs.Weighs.{weighs_each, weighs_none}
use Rattle.wbt_flusher.proofs.Turning.{counts_after, no_counts}
use Rattle.wbt_flusher.proofs.plan.FlusherPlan.weigh_all.Goals as goal

pub returns-then-not-is_strict-clause-goes : goal.returns-then-not-is_strict-clause-goes
returns-then-not-is_strict-clause-goes g c told log written = goes_nowhere c.args.self.now c.args.hands.now.kit.now c.args.seats.now c.requires.fits told c.args.work.now log written

pub returns-then-not-is_strict-clause-asked : goal.returns-then-not-is_strict-clause-asked
returns-then-not-is_strict-clause-asked g c = asked_none c.args.self.now.cpu (g.G.Gate.said c.args.hands.now.gate.now) c.args.seats.now c.args.seats.now refl

pub returns-then-not-is_strict-clause-weighs : goal.returns-then-not-is_strict-clause-weighs
returns-then-not-is_strict-clause-weighs g c log written = weighs_none (sym c.is_strict.ensures ∙ c.if-not-is_strict.true) refl refl

pub loop-context-init : goal.loop-context-init
loop-context-init g c = record {
  goes = λ told log written. goes_nowhere c.args.self.now c.args.hands.now.kit.now c.args.seats.now c.requires.fits told c.args.work.now log written;
  fits = c.requires.fits;
  lists = c.requires.lists;
  debts = refl;
  only = record { phase = refl; batch = refl; faults = refl; hard = refl; waiting = refl; some_wait = refl; wheel = refl; places = refl };
  weighs = λ log written. (refl, refl);
  asked = asked_none c.args.self.now.cpu (g.G.Gate.said c.args.hands.now.gate.now) c.args.seats.now c.args.seats.now refl;
  kinds = no_counts c.args.self.now.cpu c.args.seats.now c.args.seats.now refl;
}

pub loop-context-preserved : goal.loop-context-preserved
loop-context-preserved g c =
    let l = c.loop-context in
    let w = c.weigh in
    let e = w.ensures in
    record {
      goes = kept_more c.args.self.now c.args.hands.now.kit.now c.args.seats.now l.seats w.new.seats c.args.work.now l.work w.new.work l.invariant.goes e.goes;
      fits = e.fits;
      lists = e.lists;
      debts = e.debts ∙ l.invariant.debts;
      only = only_more c.args.work.now l.work w.new.work l.invariant.only e.only_tallies;
      weighs = λ log written. weighs_more c.args.self.now c.args.hands.now.kit.now l.context l.over c.in-Some.more c.is_or_was-over.result (sight c.args.work.now c.args.seats.now log written)
          (sight l.work l.seats log written) (sight w.new.work w.new.seats log written) (l.invariant.weighs log written) (c.in-Some.ensures.weighs log written) c.is_or_was-over.ensures;
      asked = asked_more c.args.self.now.cpu (g.G.Gate.said c.args.hands.now.gate.now) c.args.seats.now l.seats w.new.seats l.invariant.asked e.asked;
      kinds = counts_after c.args.self.now.cpu c.args.seats.now l.seats w.new.seats l.invariant.kinds e.kinds;
    }

pub returns-in-None-clause-goes : goal.returns-in-None-clause-goes
returns-in-None-clause-goes g c =
    let l = c.loop-context in
    let w = c.weigh in
    kept_more c.args.self.now c.args.hands.now.kit.now c.args.seats.now l.seats w.new.seats c.args.work.now l.work w.new.work l.invariant.goes w.ensures.goes

pub returns-in-None-clause-asked : goal.returns-in-None-clause-asked
returns-in-None-clause-asked g c = asked_more c.args.self.now.cpu (g.G.Gate.said c.args.hands.now.gate.now) c.args.seats.now c.loop-context.seats c.weigh.new.seats c.loop-context.invariant.asked c.weigh.ensures.asked

pub returns-in-None-clause-stops : goal.returns-in-None-clause-stops
returns-in-None-clause-stops g c log written =
    let l = c.loop-context in
    let w = c.weigh in
    let e = c.in-None.ensures in
    let long : length c.as_slice.result.now ≡ length c.args.self.now.contexts = (λ i. length (c.as_slice.ensures i)) in
    let less = c.loop-context-test.true in
    record {
      strict = sym c.is_strict.ensures ∙ c.if-not-is_strict.false;
      context = l.context;
      there = omega arith;
      of_device = e.of_device;
      over = l.over;
      weighed = subst (λ (z : FlusherWork × Seats). WeighsBefore c.args.self.now c.args.hands.now.kit.now l.context l.over (sight c.args.work.now c.args.seats.now log written) (sight z.0 z.1 log written))
          (λ i. (sym e.same.0 i, sym e.same.1 i)) (l.invariant.weighs log written);
    }

pub returns-clause-weighs : goal.returns-clause-weighs
returns-clause-weighs g c log written =
    let l = c.loop-context in
    weighs_each (sym c.is_strict.ensures ∙ c.if-not-is_strict.false) (subst (λ (n : ℕ). WeighsBefore c.args.self.now c.args.hands.now.kit.now n l.over (sight c.args.work.now c.args.seats.now log written) (sight l.work l.seats log written))
    (let long : length c.as_slice.result.now ≡ length c.args.self.now.contexts = (λ i. length (c.as_slice.ensures i)) in omega arith) (l.invariant.weighs log written))

-- ---- kinds of steps

pub returns-then-not-is_strict-clause-kinds : goal.returns-then-not-is_strict-clause-kinds
returns-then-not-is_strict-clause-kinds g c = no_counts c.args.self.now.cpu c.args.seats.now c.args.seats.now refl

pub returns-in-None-clause-kinds : goal.returns-in-None-clause-kinds
returns-in-None-clause-kinds g c = counts_after c.args.self.now.cpu c.args.seats.now c.loop-context.seats c.weigh.new.seats c.loop-context.invariant.kinds c.weigh.ensures.kinds
