use Rattle.std.proofs.Common.{◌≡◌}
use Rattle.wbt_replay_order.specs.Definition.Opening as spec
use Rattle.wbt_replay.proofs.opening.first_contexts.Given as goal

abbrev pub invariant-loop-context : goal.invariant-loop-context
invariant-loop-context l = l.contexts.items ≡ spec.first_contexts l.trace l.context
