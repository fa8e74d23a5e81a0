use Rattle.std.proofs.Common.{◌+◌, ◌-◌, ◌++◌, List, sym, ap, ◌∙◌}
use Rattle.wbt_trace.specs.WriterList.{writers_of_task}
use Rattle.wbt_trace.specs.declared.writers.Writer.{Writer}
use Rattle.wbt_journal.proofs.Ordered.{with_context, without_context}
use Rattle.wbt_journal.proofs.writers.push_of_task.Goals as goal
use Rattle.wbt_journal.proofs.writers.push_of_task.Goals.{then-contains+in_ok-push, else-contains}

pub loop-context-preserved : goal.loop-context-preserved
loop-context-preserved c =
    let task = c.args.task in
    let known = c.args.known.now in
    let n = c.args.contexts in
    let k = c.loop-context.context in
    let ws = c.loop-context.writers in
    elim c.if-contains.branch [
      | then-contains+in_ok-push w ↦ ap (λ (l : List Writer). l ++ writers_of_task task (k + 1) (n - (k + 1)) known) (w.writers-is ∙ w.in_ok-push.ensures)
          ∙ with_context ws task k n known c.loop-context-test.true (sym c.contains.ensures ∙ w.if-contains.true) ∙ c.loop-context.invariant
      | else-contains w ↦ ap (λ (l : List Writer). l ++ writers_of_task task (k + 1) (n - (k + 1)) known) w.writers-is
          ∙ without_context ws task k n known c.loop-context-test.true (sym c.contains.ensures ∙ w.if-contains.false) ∙ c.loop-context.invariant
    ]
