use Rattle.wbt_audit_turns.proofs.Planning.{placed}
use Rattle.wbt_audit_turns.proofs.pages.begin_all.Goals as goal

pub loop-plan-preserved : goal.loop-plan-preserved
loop-plan-preserved c =
    placed c.args.plans.now c.loop-plan.plans c.loop-plan.plan-index c.plan-item.result c.begin.new.self c.loop-plan-test.true c.loop-plan.invariant c.loop-plan.auto.plans
    c.plan-item.is c.begin.ensures
