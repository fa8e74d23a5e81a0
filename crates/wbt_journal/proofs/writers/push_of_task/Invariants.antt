use Rattle.std.proofs.Common.{◌≡◌, ◌++◌, ◌-◌}
use Rattle.wbt_trace.specs.WriterList.{writers_of_task}
use Rattle.wbt_journal.proofs.writers.push_of_task.Given as goal

abbrev pub invariant-loop-context : goal.invariant-loop-context
invariant-loop-context l =
    l.writers ++ writers_of_task l.task l.context (l.contexts - l.context) l.known ≡ l.initial.writers ++ writers_of_task l.task 0 l.contexts l.known
