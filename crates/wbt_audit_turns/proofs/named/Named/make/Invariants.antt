use Rattle.std.proofs.Common.{ℕ, ◌≡◌, ◌<◌, [], ◌++◌, length, get_or, flat_map}
use Rattle.wbt_audit_walk.proofs.Common.{estimates_of, all_told, rest}
use Rattle.wbt_audit_turns.specs.Sides.{estimates_in}
use Rattle.wbt_audit_turns.proofs.named.Named.make.Given as goal

abbrev pub invariant-loop-of_contexts : goal.invariant-loop-of_contexts
invariant-loop-of_contexts l = record {
  long : length l.of_contexts.items ≡ l.contexts;
  each : (context : ℕ) → context < l.contexts → get_or l.of_contexts.items context [] ++ flat_map (estimates_in context) (rest l.walk) ≡ estimates_of context (all_told l.journal);
}

abbrev pub decreases-loop-of_contexts : goal.decreases-loop-of_contexts
decreases-loop-of_contexts l = length (rest l.walk)
