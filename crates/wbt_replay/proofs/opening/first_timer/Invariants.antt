use Rattle.std.proofs.Common.{◌≡◌}
use Rattle.wbt_replay_order.specs.Definition.Opening as spec
use Rattle.wbt_replay.proofs.opening.first_timer.Given as goal

abbrev pub invariant-loop-domain : goal.invariant-loop-domain
invariant-loop-domain l = l.entries ≡ spec.first_entries l.trace l.domain
