use Rattle.std.proofs.Common.{◌≡◌, ◌<◌, ℕ, false}
use Rattle.wbt_replay_order.proofs.Common.{is_strict}
use Rattle.wbt_replay.proofs.strict.has_strict.Given as goal

abbrev pub invariant-loop-context : goal.invariant-loop-context
invariant-loop-context l = (k : ℕ) → k < l.context → is_strict l.trace k ≡ false
