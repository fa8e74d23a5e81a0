use Rattle.std.proofs.Common.{◌≡◌, drop}
use Rattle.wbt_replay_order.specs.Definition.Order as spec
use Rattle.wbt_replay.proofs.clock.flushers_sooner.Given as goal

abbrev pub invariant-loop-flusher : goal.invariant-loop-flusher
invariant-loop-flusher l = spec.flushers_sooner l.now l.found (drop l.flusher-index l.flushers) ≡ spec.flushers_sooner l.now l.initial.found l.flushers
