use Rattle.std.proofs.Common.{ℕ, ◌≡◌, ◌<◌, ◌≤◌, ◌+◌, ◌*◌, length, get_or, drop}
use Rattle.wbt_audit_walk.proofs.Common.{MOST_CONTEXTS, number_from}
use Rattle.wbt_num.specs.declared.most.TheConstants.{MOST_TASKS}
use Rattle.wbt_audit_turns.proofs.numbers.table_of.Given as goal

abbrev pub invariant-loop-number : goal.invariant-loop-number
invariant-loop-number l = record {
  low : l.number ≤ length l.names;
  long : length l.table.items ≡ MOST_TASKS * MOST_CONTEXTS;
  each : (task context : ℕ) → task < MOST_TASKS → context < MOST_CONTEXTS → get_or l.table.items (MOST_CONTEXTS * task + context) 0 ≡ number_from task context l.number (drop l.number l.names);
}

abbrev pub decreases-loop-number : goal.decreases-loop-number
decreases-loop-number l = l.number
