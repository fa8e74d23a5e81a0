use Rattle.std.proofs.Common.{◌∙◌, ap}
use Rattle.wbt_writer.proofs.Common.{settle, cpu_step, Checked, cpu_of, rest_after, task_at}
use Rattle.wbt_writer.specs.declared.task.TaskPlace.{TaskPlace}
use Rattle.wbt_writer.proofs.Putting.{apart, check_done, check_others, check_side, counted_put, fixed_both, here, stay_both}
use Rattle.wbt_writer.proofs.tasks.Tasks.checked.Goals as goal

pub settle-requires-clause-counted : goal.settle-requires-clause-counted
settle-requires-clause-counted c =
    check_done c.args.trace.now c.args.task c.args.self.now c.requires.there c.requires.tasks c.args.decision c.requires.due
    c.put.new.self c.rest_until.result c.requires.lawful.within.cap.0 c.requires.settles c.requires.leaves c.requires.small (fixed_both c.args.self.now c.count.new.self c.put.new.self c.count.ensures.fixed c.put.ensures.fixed)
    (c.put.ensures.cpu ∙ c.count.ensures.cpu ∙ ap (λ (x : TaskPlace). cpu_step c.args.self.now.ratelimit_pages c.args.self.now.cap (cpu_of c.args.self.now) (Checked x.writer c.args.decision)) c.task-at.ensures)
    (counted_put c.args.self.now c.count.new.self c.put.new.self c.args.task _ _ c.count.ensures.tasks c.put.ensures.tasks (c.resting.ensures ∙ ap (λ (x : TaskPlace). record x { rest = c.rest_until.result }) c.task-at.ensures))

pub settle-requires-clause-others : goal.settle-requires-clause-others
settle-requires-clause-others c =
    check_others c.args.trace.now c.args.task c.args.self.now c.requires.there c.requires.tasks c.args.decision c.requires.due c.put.new.self _
    (c.put.ensures.cpu ∙ c.count.ensures.cpu ∙ ap (λ (x : TaskPlace). cpu_step c.args.self.now.ratelimit_pages c.args.self.now.cap (cpu_of c.args.self.now) (Checked x.writer c.args.decision)) c.task-at.ensures)
    (counted_put c.args.self.now c.count.new.self c.put.new.self c.args.task _ _ c.count.ensures.tasks c.put.ensures.tasks (c.resting.ensures ∙ ap (λ (x : TaskPlace). record x { rest = c.rest_until.result }) c.task-at.ensures))

pub returns-clause-side : goal.returns-clause-side
returns-clause-side c = λ opened rate.
    c.settle.ensures.side opened (c.put.ensures.fixed.ratelimit ∙ c.count.ensures.fixed.ratelimit ∙ rate)
    ∙ ap (settle c.args.trace.now opened c.args.task)
    (check_side c.args.trace.now c.args.task c.args.self.now c.requires.there c.requires.tasks c.args.decision c.requires.due c.put.new.self c.rest_until.result opened rate
    (c.put.ensures.cpu ∙ c.count.ensures.cpu ∙ ap (λ (x : TaskPlace). cpu_step c.args.self.now.ratelimit_pages c.args.self.now.cap (cpu_of c.args.self.now) (Checked x.writer c.args.decision)) c.task-at.ensures)
    (counted_put c.args.self.now c.count.new.self c.put.new.self c.args.task _ _ c.count.ensures.tasks c.put.ensures.tasks (c.resting.ensures ∙ ap (λ (x : TaskPlace). record x { rest = c.rest_until.result }) c.task-at.ensures)))

pub returns-clause-own : goal.returns-clause-own
returns-clause-own c =
    let t = task_at c.args.self.now c.args.task in
    let e = (task_at c.settle.new.self c.args.task).ended in
    c.settle.ensures.own
    ∙ ap (λ (x : TaskPlace). record x { ended = e }) (here c.args.trace.now c.args.task c.args.self.now c.requires.there c.requires.tasks c.put.new.self _
    (counted_put c.args.self.now c.count.new.self c.put.new.self c.args.task _ _ c.count.ensures.tasks c.put.ensures.tasks (c.resting.ensures ∙ ap (λ (x : TaskPlace). record x { rest = c.rest_until.result }) c.task-at.ensures)))
    ∙ ap (λ k. record t { rest = k; ended = e }) (c.rest_until.ensures ∙ ap (λ (x : TaskPlace). rest_after c.args.decision c.args.now x) c.task-at.ensures)

pub returns-clause-others : goal.returns-clause-others
returns-clause-others c =
    stay_both c.args.task c.args.self.now c.put.new.self c.settle.new.self
    (apart c.args.trace.now c.args.task c.args.self.now c.requires.there c.requires.tasks c.put.new.self _
    (counted_put c.args.self.now c.count.new.self c.put.new.self c.args.task _ _ c.count.ensures.tasks c.put.ensures.tasks (c.resting.ensures ∙ ap (λ (x : TaskPlace). record x { rest = c.rest_until.result }) c.task-at.ensures))) c.settle.ensures.others
