use Rattle.std.proofs.Common.{ℕ, ◌≡◌, ◌+◌, ◌<◌, drop, flat_map, get_or, length}
use Rattle.wbt_audit_walk.proofs.Common.{pages_of_action, pages_of_task}
use Rattle.wbt_audit_turns.proofs.ending.plan_all.Given as goal

abbrev pub invariant-loop-action : goal.invariant-loop-action
invariant-loop-action l =
    (task : ℕ) → task < length l.pages
    → get_or l.pages task 0 + length (flat_map (pages_of_action l.trace.inodes task) (drop l.action-index l.trace.actions)) ≡ length (pages_of_task l.trace task)
