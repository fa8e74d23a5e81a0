use Rattle.std.proofs.Common.{ℕ, ◌≡◌, ◌<◌, [], length}
use Rattle.wbt_audit_turns.specs.Waited.{wheel_at}
use Rattle.wbt_audit_turns.proofs.waits.wheels_of.Given as goal

abbrev pub invariant-loop-flusher : goal.invariant-loop-flusher
invariant-loop-flusher l = record {
  long : length l.wheels.items ≡ l._flusher-index;
  inodes : (flusher : ℕ) → flusher < l._flusher-index → (wheel_at l.wheels.items flusher).inodes ≡ length l.trace.inodes;
  empty : (flusher : ℕ) → flusher < l._flusher-index → (wheel_at l.wheels.items flusher).pairs ≡ [];
}
