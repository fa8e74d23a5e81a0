use Rattle.wbt_flusher.proofs.Common.{asked_more, asked_none, none_as}
use Rattle.std.proofs.Common.{refl, ◌∙◌, arith}
use Rattle.wbt_flusher.proofs.Going.{goes_nowhere, quiet_more}
use Rattle.wbt_flusher.proofs.Loading.{others_more, others_none}
use Rattle.wbt_flusher.proofs.Cutting.{some_others}
use Rattle.wbt_flusher.proofs.Turning.{loads_one, others_cut}
use Rattle.wbt_flusher.proofs.plan.FlusherPlan.test_others.Goals as goal

pub loop-domain-init : goal.loop-domain-init
loop-domain-init g c = record {
  goes = goes_nowhere c.args.self.now c.args.hands.now.kit.now c.args.seats.now c.requires.fits;
  fits = c.requires.fits;
  debts = refl;
  others = others_none c.args.self.now c.args.global c.over_background-over.result c.args.seats.now c.over_background-over.ensures;
  asked = asked_none c.args.self.now.cpu (g.G.Gate.said c.args.hands.now.gate.now) c.args.seats.now c.args.seats.now refl;
  kinds = none_as c.args.self.now.cpu c.args.seats.now c.args.seats.now refl;
}

pub returns-in-None-clause-asked : goal.returns-in-None-clause-asked
returns-in-None-clause-asked g c = asked_more c.args.self.now.cpu (g.G.Gate.said c.args.hands.now.gate.now) c.args.seats.now c.loop-domain.seats c.read.new.seats c.loop-domain.invariant.asked c.read.ensures.asked

pub returns-in-None-clause-goes : goal.returns-in-None-clause-goes
returns-in-None-clause-goes g c = quiet_more c.args.self.now c.args.hands.now.kit.now c.args.seats.now c.loop-domain.seats c.read.new.seats c.loop-domain.invariant.goes c.read.ensures.goes

pub loop-domain-preserved : goal.loop-domain-preserved
loop-domain-preserved g c = record {
  goes = quiet_more c.args.self.now c.args.hands.now.kit.now c.args.seats.now c.loop-domain.seats c.read.new.seats c.loop-domain.invariant.goes c.read.ensures.goes;
  fits = c.read.ensures.fits;
  debts = c.read.ensures.debts ∙ c.loop-domain.invariant.debts;
  others = others_more c.args.self.now c.loop-domain.domain c.args.global c.in-Some.read c.loop-domain.over c.is_or_was_over-over.result c.args.seats.now c.loop-domain.seats c.read.new.seats c.loop-domain.invariant.others c.in-Some.ensures.reads c.is_or_was_over-over.ensures.over;
  asked = asked_more c.args.self.now.cpu (g.G.Gate.said c.args.hands.now.gate.now) c.args.seats.now c.loop-domain.seats c.read.new.seats c.loop-domain.invariant.asked c.read.ensures.asked;
  kinds = loads_one c.args.self.now.cpu c.loop-domain.domain c.args.seats.now c.loop-domain.seats c.read.new.seats (let each = c.loop-domain.invariant.others.each in omega arith) c.loop-domain.invariant.kinds c.in-Some.ensures.kinds;
}

pub returns-in-None-clause-part : goal.returns-in-None-clause-part
returns-in-None-clause-part g c =
    let l = c.loop-domain in
    some_others c.args.self.now c.args.hands.now.kit.now l.domain c.args.global l.over c.args.seats.now l.seats c.read.new.seats c.loop-domain-test.true l.invariant.others c.in-None.ensures.part

pub returns-in-None-clause-cut : goal.returns-in-None-clause-cut
returns-in-None-clause-cut g c =
    let l = c.loop-domain in
    others_cut c.args.self.now.cpu l.domain c.args.self.now.domains c.args.seats.now l.seats c.read.new.seats (let each = l.invariant.others.each in omega arith) c.loop-domain-test.true l.invariant.kinds c.in-None.ensures.cut
