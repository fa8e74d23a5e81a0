use Rattle.std.proofs.Common.{sym, ◌∙◌}
use Rattle.wbt_writer.proofs.Choosing.{is_first}
use Rattle.wbt_writer.proofs.tasks.Tasks.seek.Goals as goal

pub returns-then-is_ready : goal.returns-then-is_ready
returns-then-is_ready c =
    is_first c.args.self.now c.args.now c.args.from c.args.to c.loop-at.at c.task-task.result c.loop-at.auto.at c.loop-at-test.true c.loop-at.invariant.rest c.task-task.ensures (sym c.is_ready.ensures ∙ c.if-is_ready.true)
