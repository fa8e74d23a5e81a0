use Rattle.std.proofs.Common.{◌≡◌}
use Rattle.wbt_timer.specs.Side as spec
use Rattle.wbt_timer.proofs.side.first_sides.Given as goal

abbrev pub invariant-loop-domain : goal.invariant-loop-domain
invariant-loop-domain l = l.sides.items ≡ spec.first_sides l.trace l.now l.domain
