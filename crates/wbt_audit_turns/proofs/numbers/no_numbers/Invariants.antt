use Rattle.std.proofs.Common.{ℕ, ◌≡◌, ◌<◌, length, get_or}
use Rattle.wbt_audit_turns.proofs.numbers.no_numbers.Given as goal

abbrev pub invariant-loop-place : goal.invariant-loop-place
invariant-loop-place l = record {
  long : length l.table.items ≡ l._place;
  each : (place : ℕ) → place < l._place → get_or l.table.items place 0 ≡ l.none;
}
