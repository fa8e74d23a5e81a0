use Rattle.std.proofs.Common.{◌≡◌, map, take}
use Rattle.wbt_audit_turns.specs.Sides.{at_first}
use Rattle.wbt_audit_turns.proofs.side.first_tasks.Given as goal

abbrev pub invariant-loop-plan : goal.invariant-loop-plan
invariant-loop-plan l = l.tasks.items ≡ map at_first (take l.plan-index l.plans)
