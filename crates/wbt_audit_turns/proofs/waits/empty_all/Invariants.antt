use Rattle.std.proofs.Common.{ℕ, ◌≡◌, ◌<◌, ◌≤◌, length}
use Rattle.wbt_audit_turns.specs.Waited.{emptied, wheel_at}
use Rattle.wbt_audit_turns.proofs.waits.empty_all.Given as goal

abbrev pub invariant-loop-flusher : goal.invariant-loop-flusher
invariant-loop-flusher l = record {
  long : length l.wheels ≡ length l.initial.wheels;
  done : (k : ℕ) → k < l.flusher → wheel_at l.wheels k ≡ emptied (wheel_at l.initial.wheels k);
  left : (k : ℕ) → l.flusher ≤ k → wheel_at l.wheels k ≡ wheel_at l.initial.wheels k;
}
