use Rattle.std.proofs.Common.{◌∙◌, ap}
use Rattle.wbt_writer.proofs.Common.{settle, pace_of, task_at}
use Rattle.wbt_writer.specs.declared.task.TaskPlace.{TaskPlace}
use Rattle.wbt_writer.proofs.Putting.{apart, counted_put, fixed_both, fresh, fresh_others, fresh_side, here, moves_is, passed_same, passes_is, since_is, stands_is, stay_both, todo_same, written_same}
use Rattle.wbt_writer.proofs.tasks.Tasks.wrote_fresh.Goals as goal

pub settle-requires-clause-counted : goal.settle-requires-clause-counted
settle-requires-clause-counted c =
    fresh c.args.trace.now c.args.task c.args.self.now c.requires.there c.requires.tasks c.args.writer c.args.context c.requires.writer.0 c.requires.writer.1 c.requires.named c.requires.quiet
    c.put.new.self c.pass_page.new.self c.requires.lawful.within.cap.0 (fixed_both c.args.self.now c.count.new.self c.put.new.self c.count.ensures.fixed c.put.ensures.fixed) (c.put.ensures.cpu ∙ c.count.ensures.cpu)
    (counted_put c.args.self.now c.count.new.self c.put.new.self c.args.task _ _ c.count.ensures.tasks c.put.ensures.tasks c.counted_by.ensures)
    c.pass_page.ensures.along c.pass_page.ensures.past (todo_same c.task-passed.result _ _ c.task-passed.ensures c.pass_page.ensures.todo)

pub settle-requires-clause-others : goal.settle-requires-clause-others
settle-requires-clause-others c =
    fresh_others c.args.trace.now c.args.task c.args.self.now c.requires.there c.requires.tasks c.args.writer c.args.context c.requires.writer.0 c.requires.writer.1 c.requires.named c.requires.quiet
    c.put.new.self _ (c.put.ensures.cpu ∙ c.count.ensures.cpu) (counted_put c.args.self.now c.count.new.self c.put.new.self c.args.task _ _ c.count.ensures.tasks c.put.ensures.tasks c.counted_by.ensures)

pub returns-clause-side : goal.returns-clause-side
returns-clause-side c = λ opened rate.
    c.settle.ensures.side opened (c.put.ensures.fixed.ratelimit ∙ c.count.ensures.fixed.ratelimit ∙ rate)
    ∙ ap (settle c.args.trace.now opened c.args.task)
    (fresh_side c.args.trace.now c.args.task c.args.self.now c.requires.there c.requires.tasks c.args.writer c.args.context c.requires.writer.0 c.requires.writer.1 c.requires.named c.requires.quiet
    c.put.new.self _ opened rate (c.put.ensures.cpu ∙ c.count.ensures.cpu) (counted_put c.args.self.now c.count.new.self c.put.new.self c.args.task _ _ c.count.ensures.tasks c.put.ensures.tasks c.counted_by.ensures)
    (ap (λ (x : TaskPlace). x.ended) (passed_same c.task-passed.result _ c.pass_page.new.self c.task-passed.ensures c.pass_page.ensures.others))
    (todo_same c.task-passed.result _ _ c.task-passed.ensures c.pass_page.ensures.todo))

pub returns-clause-passes : goal.returns-clause-passes
returns-clause-passes c =
    passes_is (task_at c.args.self.now c.args.task) _ (task_at c.put.new.self c.args.task) (task_at c.settle.new.self c.args.task)
    (here c.args.trace.now c.args.task c.args.self.now c.requires.there c.requires.tasks c.put.new.self _ (counted_put c.args.self.now c.count.new.self c.put.new.self c.args.task _ _ c.count.ensures.tasks c.put.ensures.tasks c.counted_by.ensures)) c.settle.ensures.own
    (written_same c.task-passed.result _ _ c.task-passed.ensures c.pass_page.ensures.written) (todo_same c.task-passed.result _ _ c.task-passed.ensures c.pass_page.ensures.todo)
    (ap (λ (x : TaskPlace). x.own) (passed_same c.task-passed.result _ c.pass_page.new.self c.task-passed.ensures c.pass_page.ensures.others))
    (ap (λ (x : TaskPlace). x.rest) (passed_same c.task-passed.result _ c.pass_page.new.self c.task-passed.ensures c.pass_page.ensures.others))

pub returns-clause-others : goal.returns-clause-others
returns-clause-others c =
    stay_both c.args.task c.args.self.now c.put.new.self c.settle.new.self
    (apart c.args.trace.now c.args.task c.args.self.now c.requires.there c.requires.tasks c.put.new.self _ (counted_put c.args.self.now c.count.new.self c.put.new.self c.args.task _ _ c.count.ensures.tasks c.put.ensures.tasks c.counted_by.ensures)) c.settle.ensures.others

pub returns-clause-stands : goal.returns-clause-stands
returns-clause-stands c =
    let put = here c.args.trace.now c.args.task c.args.self.now c.requires.there c.requires.tasks c.put.new.self _ (counted_put c.args.self.now c.count.new.self c.put.new.self c.args.task _ _ c.count.ensures.tasks c.put.ensures.tasks c.counted_by.ensures) in
    stands_is c.task-passed.result (task_at c.args.self.now c.args.task) c.pass_page.new.self (task_at c.put.new.self c.args.task) (task_at c.settle.new.self c.args.task)
    c.task-passed.ensures c.pass_page.ensures.others c.settle.ensures.own c.args.trace.now c.args.task (ap (λ (z : TaskPlace). z.at) put) (ap (λ (z : TaskPlace). z.done) put) c.pass_page.ensures.stands

pub returns-clause-place : goal.returns-clause-place
returns-clause-place c =
    moves_is c.task-passed.result (task_at c.args.self.now c.args.task) c.pass_page.new.self (task_at c.put.new.self c.args.task) (task_at c.settle.new.self c.args.task)
    c.task-passed.ensures c.pass_page.ensures.others c.settle.ensures.own c.args.writer c.args.context
    (here c.args.trace.now c.args.task c.args.self.now c.requires.there c.requires.tasks c.put.new.self _ (counted_put c.args.self.now c.count.new.self c.put.new.self c.args.task _ _ c.count.ensures.tasks c.put.ensures.tasks c.counted_by.ensures))

pub returns-clause-since : goal.returns-clause-since
returns-clause-since c =
    let put = here c.args.trace.now c.args.task c.args.self.now c.requires.there c.requires.tasks c.put.new.self _ (counted_put c.args.self.now c.count.new.self c.put.new.self c.args.task _ _ c.count.ensures.tasks c.put.ensures.tasks c.counted_by.ensures) in
    since_is c.task-passed.result (task_at c.args.self.now c.args.task) c.pass_page.new.self (task_at c.put.new.self c.args.task) (task_at c.settle.new.self c.args.task)
    c.task-passed.ensures c.pass_page.ensures.others c.settle.ensures.own (pace_of c.args.trace.now c.args.task) (ap (λ (z : TaskPlace). z.since) put) c.pass_page.ensures.since
