use Rattle.wbt_audit_turns.proofs.Working.{none_planned, one_planned, all_planned}
use Rattle.wbt_audit_turns.proofs.ending.plan_all.Goals as goal

pub loop-action-init : goal.loop-action-init
loop-action-init c = none_planned c.args.trace.now c.args.pages.now c.requires

pub loop-action-preserved : goal.loop-action-preserved
loop-action-preserved c =
    one_planned c.args.trace.now c.as_slice-action-items.result.now c.loop-action.action-index _ c.loop-action.pages c.plan.new.pages c.as_slice-action-items.ensures
    c.loop-action-test.true c.plan.auto.pages c.in_ok-plan.ensures c.loop-action.invariant

pub returns : goal.returns
returns c = λ task low.
    all_planned c.args.trace.now c.as_slice-action-items.result.now c.loop-action.action-index c.loop-action.pages c.args.pages.now c.as_slice-action-items.ensures
    c.loop-action-test.false c.loop-action.auto.pages c.loop-action.invariant task low
