use Rattle.std.proofs.Common.{◌+◌, ◌-◌, ◌++◌, List, ap, ◌∙◌}
use Rattle.wbt_trace.specs.WriterList.{writers_from}
use Rattle.wbt_trace.specs.declared.writers.Writer.{Writer}
use Rattle.wbt_journal.proofs.Ordered.{with_task}
use Rattle.wbt_journal.proofs.writers.push_in_order.Goals as goal

pub loop-task-preserved : goal.loop-task-preserved
loop-task-preserved c =
    let known = c.args.known.now in
    let n = c.args.tasks in
    let k = c.loop-task.task in
    ap (λ (l : List Writer). l ++ writers_from (k + 1) (n - (k + 1)) c.args.contexts known) c.in_ok-push_of_task.ensures
    ∙ with_task c.loop-task.writers k n c.args.contexts known c.loop-task-test.true ∙ c.loop-task.invariant
