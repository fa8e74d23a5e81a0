use Rattle.std.proofs.Common.{◌≡◌, drop, map}
use Rattle.wbt_replay_order.proofs.Common.{writers_after, writers_of}
use Rattle.wbt_replay.proofs.strict.writer_contexts.Given as goal

abbrev pub invariant-loop-action : goal.invariant-loop-action
invariant-loop-action l = record {
  all : writers_after l.writers l.trace.inodes (drop l.action-index l.trace.actions) ≡ writers_of l.trace.inodes l.trace.actions;
  contexts : l.contexts ≡ map (λ w. w.context) l.writers;
}
