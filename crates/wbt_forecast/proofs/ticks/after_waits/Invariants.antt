use Rattle.std.proofs.Common.{◌≡◌, drop}
use Rattle.wbt_replay_order.proofs.Common.{after_waits}
use Rattle.wbt_forecast.proofs.ticks.after_waits.Given as goal

abbrev pub invariant-loop-flusher : goal.invariant-loop-flusher
invariant-loop-flusher l = after_waits l.latest (drop l.flusher-index l.flushers) ≡ after_waits l.moment l.flushers
