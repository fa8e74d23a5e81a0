use Rattle.std.proofs.Common.{ℕ, ◌≡◌, ◌<◌, true, length, get_or}
use Rattle.wbt_rules.specs.Age.{is_ageing}
use Rattle.wbt_rules.specs.Things.{flusher_device}
use Rattle.wbt_audit_turns.proofs.waits.ageing_of.Given as goal

abbrev pub invariant-loop-flusher : goal.invariant-loop-flusher
invariant-loop-flusher l = record {
  long : length l.ageing.items ≡ l.flusher-index;
  each : (flusher : ℕ) → flusher < l.flusher-index → get_or l.ageing.items flusher true ≡ is_ageing l.trace (flusher_device l.trace flusher);
}
