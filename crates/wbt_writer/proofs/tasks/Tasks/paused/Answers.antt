use Rattle.std.proofs.Common.{◌≡◌, ap, ◌∙◌, set}
use Rattle.wbt_writer.proofs.Common.{task_at}
use Rattle.wbt_writer.specs.declared.task.TaskPlace.{TaskPlace}
use Rattle.wbt_writer.proofs.Resting.{pause_keeps, pause_side}
use Rattle.wbt_writer.proofs.tasks.Tasks.paused.Goals as goal

put_is : (c : goal.After-put) → c.put.new.self.tasks.items ≡ set c.args.self.now.tasks.items c.args.task (record (task_at c.args.self.now c.args.task) { since = 0; rest = c.args.until })
put_is c = c.put.ensures.tasks ∙ ap (set c.args.self.now.tasks.items c.args.task) (c.paused_at.ensures ∙ ap (λ (x : TaskPlace). record x { since = 0; rest = c.args.until }) c.task-at.ensures)

pub returns-clause-tasks : goal.returns-clause-tasks
returns-clause-tasks c = λ trace all. pause_keeps trace c.args.self.now c.put.new.self c.args.task c.args.until c.requires c.put.ensures.fixed c.put.ensures.cpu (put_is c) all

pub returns-clause-side : goal.returns-clause-side
returns-clause-side c = pause_side c.args.self.now c.put.new.self c.args.task c.args.until c.requires c.put.ensures.cpu (put_is c)
