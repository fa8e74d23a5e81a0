use Rattle.std.proofs.Common.{◌+◌}
use Rattle.wbt_writer.proofs.Seeing.{begin_keeps}
use Rattle.wbt_writer.proofs.tasks.Tasks.begin.Goals as goal

pub returns-clause-tasks : goal.returns-clause-tasks
returns-clause-tasks c = λ trace all. begin_keeps trace c.args.self.now (c.args.task + 1) all
