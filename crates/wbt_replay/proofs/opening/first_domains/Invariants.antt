use Rattle.std.proofs.Common.{◌≡◌}
use Rattle.wbt_replay_order.specs.Definition.Opening as spec
use Rattle.wbt_replay.proofs.opening.first_domains.Given as goal

abbrev pub invariant-loop-domain : goal.invariant-loop-domain
invariant-loop-domain l = l.domains.items ≡ spec.first_domains l.trace l.domain
