use Rattle.std.proofs.Common.{ℕ, ◌≡◌, ◌<◌, [], length, get_or}
use Rattle.wbt_audit_turns.proofs.named.new_lists.Given as goal

abbrev pub invariant-loop-context : goal.invariant-loop-context
invariant-loop-context l = record {
  long : length l.lists.items ≡ l._context;
  empty : (context : ℕ) → context < l._context → get_or l.lists.items context [] ≡ [];
}
