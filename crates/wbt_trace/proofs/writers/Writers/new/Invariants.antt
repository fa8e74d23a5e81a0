use Rattle.std.proofs.Common.{◌≡◌, ℕ, false, length, get_or}
use Rattle.wbt_trace.proofs.writers.Writers.new.Given as goal

abbrev pub invariant-loop-place : goal.invariant-loop-place
invariant-loop-place l = record { count : length l.marks.items ≡ l._place; unmarked : (k : ℕ) → get_or l.marks.items k false ≡ false }
