use Rattle.std.proofs.Common.{◌≡◌, ◌<◌, ℕ, length, get_or}
use Rattle.wbt_writer.proofs.Common.{is_own_task, no_task}
use Rattle.wbt_writer.specs.Opening.{HasSeen}
use Rattle.wbt_writer.proofs.opening.see_actions.Given as goal

abbrev pub invariant-loop-at : goal.invariant-loop-at
invariant-loop-at l = record {
  long : length l.tasks.items ≡ length l.trace.tasks;
  seen : (t : ℕ) → t < length l.trace.tasks → HasSeen l.trace (is_own_task l.trace l.cpu t) t l.at (get_or l.tasks.items t no_task);
}
