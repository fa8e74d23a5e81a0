-- The estimates of the contexts so far.
use Rattle.std.proofs.Common.{◌≡◌, map, take}
use Rattle.wbt_rules.specs.First.{first_by}
use Rattle.wbt_trace.specs.declared.trace.Context.{Context}
use Rattle.wbt_audit_reads.proofs.estimates.firsts_of.Given as goal

abbrev pub invariant-loop-context : goal.invariant-loop-context
invariant-loop-context l = l.last.items ≡ map (λ (context : Context). first_by context.estimate l.opened) (take l.context-index l.trace.contexts)
