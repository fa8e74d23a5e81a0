use Rattle.std.proofs.Common.{length}
use Rattle.wbt_audit_walk.proofs.Common.{lists_after, wait_fault, Goes, rest}
use Rattle.wbt_journal.specs.Verdict.{waits_fault}
use Rattle.wbt_audit_turns.specs.Waited.{AreListsOf, AreOf, Keep}
use Rattle.wbt_audit_turns.proofs.waits.waits_fault.Given as goal

abbrev pub invariant-loop-lists : goal.invariant-loop-lists
invariant-loop-lists l = record {
  goes : Goes (wait_fault l.trace) (lists_after l.trace) (Keep l.trace l.lists.cpu l.lists.wheels.items) (waits_fault l.trace l.journal) l.walk;
  lists : AreListsOf l.trace l.lists;
  parts : AreOf l.lists.cpu (rest l.walk);
}

abbrev pub decreases-loop-lists : goal.decreases-loop-lists
decreases-loop-lists l = length (rest l.walk)
