use Rattle.std.proofs.Common.{[], length}
use Rattle.wbt_audit_walk.proofs.Common.{item_size, items_of, page_fault, writes_after, first_cpu_line, first_fault, Goes, rest}
use Rattle.wbt_audit_turns.specs.Written.{ShowsWritten}
use Rattle.wbt_audit_turns.proofs.pages.walk_fault.Given as goal

abbrev pub invariant-steps : goal.invariant-steps
invariant-steps l =
    Goes (page_fault l.trace) writes_after (ShowsWritten l.trace l.plans)
    (first_fault (page_fault l.trace) writes_after item_size (first_cpu_line l.journal) [] (items_of l.journal)) l.walk

abbrev pub decreases-steps : goal.decreases-steps
decreases-steps l = length (rest l.walk)
