use Rattle.std.proofs.Common.{refl, sym, ◌∙◌, inl, inr, true≢false}
use Rattle.wbt_flusher.specs.Cut.{of_list, of_queue}
use Rattle.wbt_flusher.specs.Took.{by_age, is_calm, is_over}
use Rattle.wbt_flusher.proofs.Weighing.{by_over}
use Rattle.wbt_flusher.proofs.plan.FlusherPlan.decide.Goals as goal

pub returns-then-self-clause-decides : goal.returns-then-self-clause-decides
returns-then-self-clause-decides g c is loads own written over_is = by_age c.if-self.true c.args.over over_is (c.decide_by_age.ensures.decides is written)

pub returns-then-self-clause-halts : goal.returns-then-self-clause-halts
returns-then-self-clause-halts g c is written = of_list c.if-self.true (c.decide_by_age.ensures.halts is written)

pub returns-clause-ends : goal.returns-clause-ends
returns-clause-ends g c moments written has = c.decide_by_background.ensures.ends moments c.args.pen.now.log written

pub returns-clause-decides : goal.returns-clause-decides
returns-clause-decides g c is loads own written over_is =
    let d = c.decide_by_background in
    by_over c.args.over
    (λ over. is_over c.if-self.false (over_is.0 over) (d.ensures.takes is over c.args.pen.now.log written))
    (λ calm.
    let rests = d.ensures.calm calm in
    is_calm c.if-self.false (λ any. true≢false (sym (over_is.1 (inl any)) ∙ calm))
    (by_over own (λ so. absurd (true≢false (sym (over_is.1 (inr so)) ∙ calm))) (λ none. none)) rests.1 refl rests.2)

pub returns-clause-halts : goal.returns-clause-halts
returns-clause-halts g c is written =
    let stops = c.decide_by_background.ensures.halts is in
    of_queue c.if-self.false stops.0 (stops.1 c.args.pen.now.log written)
