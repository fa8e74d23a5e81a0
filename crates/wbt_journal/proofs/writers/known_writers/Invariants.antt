use Rattle.std.proofs.Common.{◌≡◌, drop}
use Rattle.wbt_trace.specs.Lawful.{writers_of, writers_after}
use Rattle.wbt_journal.proofs.writers.known_writers.Given as goal

abbrev pub invariant-loop-action : goal.invariant-loop-action
invariant-loop-action l = writers_after l.known l.trace.inodes (drop l.action-index l.trace.actions) ≡ writers_of l.trace.inodes l.trace.actions
