use Rattle.std.proofs.Common.{◌≡◌, ◌++◌, ◌-◌}
use Rattle.wbt_trace.specs.WriterList.{writers_from}
use Rattle.wbt_journal.proofs.writers.push_in_order.Given as goal

abbrev pub invariant-loop-task : goal.invariant-loop-task
invariant-loop-task l =
    l.writers ++ writers_from l.task (l.tasks - l.task) l.contexts l.known ≡ l.initial.writers ++ writers_from 0 l.tasks l.contexts l.known
