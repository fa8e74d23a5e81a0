use Rattle.std.proofs.Common.{◌≡◌}
use Rattle.wbt_replay_order.specs.Definition.Run as spec
use Rattle.wbt_replay.proofs.ordered.bases_of.Given as goal

abbrev pub invariant-loop-domain : goal.invariant-loop-domain
invariant-loop-domain l = l.bases ≡ spec.bases_of l.trace l.domain
