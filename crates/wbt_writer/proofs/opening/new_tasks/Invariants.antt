use Rattle.std.proofs.Common.{◌≡◌, ◌<◌, ℕ, length, get_or}
use Rattle.wbt_writer.proofs.Common.{is_own_task, no_task}
use Rattle.wbt_writer.specs.Opening.{new_task}
use Rattle.wbt_writer.proofs.opening.new_tasks.Given as goal

abbrev pub invariant-loop-task : goal.invariant-loop-task
invariant-loop-task l = record {
  long : length l.tasks.items ≡ l.task;
  each : (t : ℕ) → t < l.task → get_or l.tasks.items t no_task ≡ new_task (is_own_task l.trace l.cpu t) l.actions;
}
