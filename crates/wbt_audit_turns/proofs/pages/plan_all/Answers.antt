use Rattle.std.proofs.Common.{◌+◌, sym, subst, List, drop}
use Rattle.wbt_audit_turns.specs.Planned.{TaskPages}
use Rattle.wbt_audit_turns.specs.Written.{ArePlanned}
use Rattle.wbt_audit_turns.proofs.Planning.{none_planned, planned_at, planned_end}
use Rattle.wbt_audit_turns.proofs.pages.plan_all.Goals as goal

pub loop-action-init : goal.loop-action-init
loop-action-init c = subst (λ (l : List TaskPages). ArePlanned c.args.trace.now l c.args.trace.now.actions) (sym c.requires.none) (none_planned c.args.trace.now)

pub loop-action-preserved : goal.loop-action-preserved
loop-action-preserved c =
    c.in_ok-plan_action.ensures (drop (c.loop-action.action-index + 1) c.args.trace.now.actions)
    (planned_at c.args.trace.now c.loop-action.plans c.as_slice-action-items.result.now c.loop-action.action-index _ c.as_slice-action-items.ensures c.loop-action-test.true c.loop-action.invariant)

pub returns : goal.returns
returns c =
    planned_end c.args.trace.now c.loop-action.plans c.begin_all.new.plans c.as_slice-action-items.result.now c.loop-action.action-index c.as_slice-action-items.ensures
    c.loop-action-test.false c.loop-action.invariant c.begin_all.ensures
