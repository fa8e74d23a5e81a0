use Rattle.std.proofs.Common.{◌≡◌, map, take}
use Rattle.wbt_kit.proofs.Common.{Context}
use Rattle.wbt_kit.specs.Opening as spec
use Rattle.wbt_kit.proofs.devices.owners_of.Given as goal

abbrev pub invariant-loop-context : goal.invariant-loop-context
invariant-loop-context l = l.owners ≡ map (λ (context : Context). spec.first_cpu context.device l.trace.flushers) (take l.context-index l.trace.contexts)
