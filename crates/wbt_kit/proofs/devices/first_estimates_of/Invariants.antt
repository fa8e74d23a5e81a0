use Rattle.std.proofs.Common.{◌≡◌, map, take}
use Rattle.wbt_rules.specs.First.{first_by}
use Rattle.wbt_kit.proofs.Common.{Context}
use Rattle.wbt_kit.proofs.devices.first_estimates_of.Given as goal

abbrev pub invariant-loop-context : goal.invariant-loop-context
invariant-loop-context l = l.firsts ≡ map (λ (context : Context). first_by context.estimate l.now) (take l.context-index l.trace.contexts)
