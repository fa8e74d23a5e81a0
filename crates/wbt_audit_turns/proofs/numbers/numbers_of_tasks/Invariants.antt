use Rattle.std.proofs.Common.{ℕ, ◌≡◌, ◌<◌, [], length, get_or}
use Rattle.wbt_audit_walk.proofs.Common.{numbers_from}
use Rattle.wbt_audit_turns.proofs.numbers.numbers_of_tasks.Given as goal

abbrev pub invariant-loop-task : goal.invariant-loop-task
invariant-loop-task l = record {
  long : length l.of_tasks.items ≡ l.task;
  each : (task : ℕ) → task < l.task → get_or l.of_tasks.items task [] ≡ numbers_from task 0 l.names;
}
