use Rattle.std.proofs.Common.{◌≡◌, drop, []}
use Rattle.wbt_replay_order.specs.Definition.Opening as spec
use Rattle.wbt_replay.proofs.opening.weighs_of.Given as goal

abbrev pub invariant-loop-number : goal.invariant-loop-number
invariant-loop-number l = spec.strict_from l.trace l.device l.number (drop l.number l.trace.contexts) l.contexts ≡ spec.strict_from l.trace l.device 0 l.trace.contexts []
