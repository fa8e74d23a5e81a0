use Rattle.std.proofs.Common.{◌≡◌, map, take}
use Rattle.wbt_kit.proofs.Common.{Context}
use Rattle.wbt_kit.proofs.devices.homes_of.Given as goal

abbrev pub invariant-loop-context : goal.invariant-loop-context
invariant-loop-context l = l.homes ≡ map (λ (context : Context). context.domain) (take l.context-index l.trace.contexts)
