use Rattle.std.proofs.Common.{ℕ, ◌≡◌, ◌<◌, false, drop, get_or, length}
use Rattle.wbt_audit_walk.proofs.Common.{rests_after, rests_last}
use Rattle.wbt_audit.proofs.unsettled.last_rests.Given as goal

abbrev pub invariant-loop-action : goal.invariant-loop-action
invariant-loop-action l = record {
  count : length l.rests.items ≡ length l.trace.tasks;
  last : (task : ℕ) → task < length l.rests.items
      → rests_after task (get_or l.rests.items task false) (drop l.action-index l.trace.actions) ≡ rests_last l.trace task;
}
