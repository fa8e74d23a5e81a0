use Rattle.wbt_flusher.proofs.Common.{asked_more}
use Rattle.wbt_flusher.proofs.Going.{quiet_more}
use Rattle.wbt_flusher.proofs.Loading.{tests_some}
use Rattle.wbt_flusher.proofs.Cutting.{some_after, some_first}
use Rattle.wbt_flusher.proofs.Turning.{global_cut, later_cut, loads_each, none_so, some_so}
use Rattle.wbt_flusher.proofs.plan.FlusherPlan.test.Goals as goal

pub returns-in-Some-clause-goes : goal.returns-in-Some-clause-goes
returns-in-Some-clause-goes g c = quiet_more c.args.self.now c.args.hands.now.kit.now c.args.seats.now c.read.new.seats c.test_others.new.seats c.read.ensures.goes c.test_others.ensures.goes

pub returns-in-Some-clause-asked : goal.returns-in-Some-clause-asked
returns-in-Some-clause-asked g c = asked_more c.args.self.now.cpu (g.G.Gate.said c.args.hands.now.gate.now) c.args.seats.now c.read.new.seats c.test_others.new.seats c.read.ensures.asked c.test_others.ensures.asked

pub returns-in-Some-clause-tested : goal.returns-in-Some-clause-tested
returns-in-Some-clause-tested g c =
    tests_some c.args.self.now c.in-Some.global c.test_others.result c.args.seats.now c.read.new.seats c.test_others.new.seats c.in-Some.ensures.reads c.test_others.ensures.global c.test_others.ensures.others

pub returns-in-None-clause-part : goal.returns-in-None-clause-part
returns-in-None-clause-part g c = some_first c.args.self.now c.args.hands.now.kit.now c.args.seats.now c.read.new.seats c.requires.suits.plan_is.some_domain c.in-None.ensures.part

pub returns-in-Some-clause-part : goal.returns-in-Some-clause-part
returns-in-Some-clause-part g c =
    some_after c.args.self.now c.args.hands.now.kit.now c.in-Some.global c.test_others.result c.args.seats.now c.read.new.seats c.test_others.new.seats c.in-Some.ensures.reads c.test_others.ensures.part

-- ---- kinds of steps

pub returns-in-None-clause-cut : goal.returns-in-None-clause-cut
returns-in-None-clause-cut g c = global_cut c.args.self.now.cpu c.args.self.now.domains c.args.seats.now c.read.new.seats c.requires.suits.plan_is.some_domain c.in-None.ensures.cut

pub returns-in-Some-clause-kinds : goal.returns-in-Some-clause-kinds
returns-in-Some-clause-kinds g c =
    some_so c.test_others.result _ _
    (loads_each c.args.self.now.cpu c.args.self.now.domains c.args.seats.now c.read.new.seats c.test_others.new.seats c.requires.suits.plan_is.some_domain c.in-Some.ensures.kinds) c.test_others.ensures.kinds

pub returns-in-Some-clause-cut : goal.returns-in-Some-clause-cut
returns-in-Some-clause-cut g c =
    none_so c.test_others.result _ _
    (later_cut c.args.self.now.cpu c.args.self.now.domains c.args.seats.now c.read.new.seats c.test_others.new.seats c.requires.suits.plan_is.some_domain c.in-Some.ensures.kinds) c.test_others.ensures.cut
