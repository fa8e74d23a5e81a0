use Rattle.std.proofs.Common.{◌≡◌, drop}
use Rattle.wbt_rules.specs.Things.{first_flusher}
use Rattle.wbt_rules.proofs.things.first_flusher.Given as goal

abbrev pub invariant-loop-flusher : goal.invariant-loop-flusher
invariant-loop-flusher l = (l.number ≡ l.flusher-index) × (first_flusher l.device l.number (drop l.flusher-index l.flushers) ≡ first_flusher l.device 0 l.flushers)
