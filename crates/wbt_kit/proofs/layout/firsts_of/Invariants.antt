use Rattle.std.proofs.Common.{◌≡◌}
use Rattle.wbt_kit.specs.Opening as spec
use Rattle.wbt_kit.proofs.layout.firsts_of.Given as goal

abbrev pub invariant-loop-domain : goal.invariant-loop-domain
invariant-loop-domain l = l.firsts ≡ spec.firsts_of l.trace l.now l.domain
