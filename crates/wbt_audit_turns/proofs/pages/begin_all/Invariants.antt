use Rattle.std.proofs.Common.{◌≡◌, ◌++◌, map, take, drop}
use Rattle.wbt_audit_turns.specs.Written.{all_left}
use Rattle.wbt_audit_turns.proofs.pages.begin_all.Given as goal

abbrev pub invariant-loop-plan : goal.invariant-loop-plan
invariant-loop-plan l = l.plans ≡ map all_left (take l.plan-index l.initial.plans) ++ drop l.plan-index l.initial.plans
