use Rattle.std.proofs.Common.{ℕ, ◌≡◌, ◌<◌, ◌+◌, length, get_or, drop, flat_map}
use Rattle.wbt_audit_walk.proofs.Common.{pages_of_action, pages_of_task, rests_after, rests_last}
use Rattle.wbt_audit_turns.specs.Sides.{no_plan}
use Rattle.wbt_audit_turns.proofs.machine.task_plans.Given as goal

abbrev pub invariant-loop-action : goal.invariant-loop-action
invariant-loop-action l = record {
  long : length l.plans.items ≡ length l.trace.tasks;
  pages : (task : ℕ) → task < length l.trace.tasks
      → (get_or l.plans.items task no_plan).pages + length (flat_map (pages_of_action l.trace.inodes task) (drop l.action-index l.trace.actions)) ≡ length (pages_of_task l.trace task);
  rests : (task : ℕ) → task < length l.trace.tasks
      → rests_after task (get_or l.plans.items task no_plan).rests_last (drop l.action-index l.trace.actions) ≡ rests_last l.trace task;
}
