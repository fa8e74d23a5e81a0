use Rattle.std.proofs.Common.{drop}
use Rattle.wbt_audit_turns.specs.Written.{ArePlanned}
use Rattle.wbt_audit_turns.proofs.pages.plan_all.Given as goal

abbrev pub invariant-loop-action : goal.invariant-loop-action
invariant-loop-action l = ArePlanned l.trace l.plans (drop l.action-index l.trace.actions)
