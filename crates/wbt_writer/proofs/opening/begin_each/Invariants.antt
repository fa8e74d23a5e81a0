use Rattle.std.proofs.Common.{◌≡◌, ◌<◌, ◌≤◌, ℕ, length, get_or}
use Rattle.wbt_writer.proofs.Common.{no_task}
use Rattle.wbt_writer.specs.Opening.{begun}
use Rattle.wbt_writer.proofs.opening.begin_each.Given as goal

abbrev pub invariant-loop-task : goal.invariant-loop-task
invariant-loop-task l = record {
  long : length l.tasks.items ≡ length l.fn.tasks.items;
  each : (t : ℕ) → t < l.task → get_or l.tasks.items t no_task ≡ begun (get_or l.fn.tasks.items t no_task);
  rest : (t : ℕ) → l.task ≤ t → get_or l.tasks.items t no_task ≡ get_or l.fn.tasks.items t no_task;
}
