use Rattle.std.proofs.Common.{◌≡◌, replicate}
use Rattle.wbt_audit_turns.specs.Written.{no_pages}
use Rattle.wbt_audit_turns.proofs.pages.no_plans.Given as goal

abbrev pub invariant-loop-task : goal.invariant-loop-task
invariant-loop-task l = l.plans.items ≡ replicate l._task no_pages
