use Rattle.std.proofs.Common.{◌≡◌, drop, map}
use Rattle.wbt_replay_order.proofs.Common.{writers_after, writers_of, group_of}
use Rattle.wbt_replay.proofs.ordered.writer_homes.Given as goal

abbrev pub invariant-loop-action : goal.invariant-loop-action
invariant-loop-action l = record {
  all : writers_after l.writers l.trace.inodes (drop l.action-index l.trace.actions) ≡ writers_of l.trace.inodes l.trace.actions;
  homes : l.homes ≡ map (λ w. group_of l.trace w.context) l.writers;
}
