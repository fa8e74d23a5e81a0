use Rattle.std.proofs.Common.{◌≤◌, sym, ◌∙◌, ap, subst, arith, length, set, true}
use Rattle.wbt_writer.proofs.Common.{IsAlong, task_at}
use Rattle.wbt_writer.specs.declared.task.TaskPlace.{TaskPlace}
use Rattle.wbt_writer.proofs.Exacting.{next_at, put_here, rests_at}
use Rattle.wbt_writer.proofs.Putting.{here}
use Rattle.wbt_writer.proofs.Resting.{may_end, open_side, over_side, rest_open, rest_over, rest_passed}
use Rattle.wbt_writer.proofs.Settling.{stays_ended}
use Rattle.wbt_writer.proofs.tasks.Tasks.rested.Goals as goal

pub returns-then-at-as_slice-clause-tasks : goal.returns-then-at-as_slice-clause-tasks
returns-then-at-as_slice-clause-tasks c =
    let t = task_at c.args.self.now c.args.task in let p = c.pass_rest.new.self in
    let same = rest_passed c.task-at.result t p c.task-at.ensures c.pass_rest.ensures.others in
    let long = ap length c.as_slice.ensures in
    rest_open c.args.trace.now c.args.task c.args.self.now c.requires.there c.requires.tasks c.requires.quiet p.at c.args.until (subst (IsAlong c.args.trace.now c.args.task) same c.pass_rest.ensures.along)
    c.put.new.self (omega (arith, long, c)) c.put.ensures.fixed c.put.ensures.cpu
    (c.put.ensures.tasks ∙ ap (set c.args.self.now.tasks.items c.args.task) (c.resting.ensures ∙ ap (λ (x : TaskPlace). record x { rest = c.args.until }) same))

pub returns-then-at-as_slice-clause-goes_on : goal.returns-then-at-as_slice-clause-goes_on
returns-then-at-as_slice-clause-goes_on c = λ less.
    let t = task_at c.args.self.now c.args.task in let p = c.pass_rest.new.self in
    let same = rest_passed c.task-at.result t p c.task-at.ensures c.pass_rest.ensures.others in
    open_side c.args.trace.now c.args.task c.args.self.now c.requires.there c.requires.tasks c.requires.quiet p.at c.args.until (subst (IsAlong c.args.trace.now c.args.task) same c.pass_rest.ensures.along)
    c.put.new.self c.put.ensures.cpu
    (c.put.ensures.tasks ∙ ap (set c.args.self.now.tasks.items c.args.task) (c.resting.ensures ∙ ap (λ (x : TaskPlace). record x { rest = c.args.until }) same))

pub returns-clause-tasks : goal.returns-clause-tasks
returns-clause-tasks c =
    let t = task_at c.args.self.now c.args.task in let p = c.pass_rest.new.self in
    let same = rest_passed c.task-at.result t p c.task-at.ensures c.pass_rest.ensures.others in
    let e = c.end.ensures in
    rest_over c.args.trace.now c.args.task c.args.self.now c.requires.there c.requires.tasks c.requires.quiet p.at c.args.until (subst (IsAlong c.args.trace.now c.args.task) same c.pass_rest.ensures.along)
    c.end.new.self c.put-2.new.self
    (stays_ended c.args.trace.now c.args.task c.args.self.now c.requires.there c.requires.tasks.counted c.end.new.self c.requires.lawful.within.cap.0 e.only e.fixed e.stay e.left e.tasks (λ other less differs. c.requires.tasks.go_on other less))
    e.tasks c.put-2.ensures.fixed c.put-2.ensures.cpu
    (c.put-2.ensures.tasks ∙ ap (set c.end.new.self.tasks.items c.args.task) (c.ended_at.ensures ∙ ap (λ (x : TaskPlace). record x { rest = c.args.until; ended = true }) same))

pub returns-clause-ends : goal.returns-clause-ends
returns-clause-ends c = λ opened rate past.
    let t = task_at c.args.self.now c.args.task in let p = c.pass_rest.new.self in
    let same = rest_passed c.task-at.result t p c.task-at.ensures c.pass_rest.ensures.others in
    let e = c.end.ensures in
    over_side c.args.trace.now c.args.task c.args.self.now c.requires.there c.requires.tasks c.requires.quiet p.at c.args.until (subst (IsAlong c.args.trace.now c.args.task) same c.pass_rest.ensures.along)
    c.end.new.self c.put-2.new.self opened rate e.cpu e.tasks c.put-2.ensures.cpu
    (c.put-2.ensures.tasks ∙ ap (set c.end.new.self.tasks.items c.args.task) (c.ended_at.ensures ∙ ap (λ (x : TaskPlace). record x { rest = c.args.until; ended = true }) same))

pub returns-clause-may_end : goal.returns-clause-may_end
returns-clause-may_end c = λ past.
    let t = task_at c.args.self.now c.args.task in let p = c.pass_rest.new.self in
    let same = rest_passed c.task-at.result t p c.task-at.ensures c.pass_rest.ensures.others in
    let long = ap length c.as_slice.ensures in
    let behind : length c.args.trace.now.actions ≤ p.at = omega (arith, long, c) in
    may_end c.args.trace.now c.args.task c.args.self.now c.requires.there c.requires.tasks c.requires.quiet c.requires.going
    (sym (ap (λ (x : TaskPlace). x.rests_last) same) ∙ c.pass_rest.ensures.last behind) (sym (ap (λ (x : TaskPlace). x.todo) same) ∙ c.pass_rest.ensures.all behind)

pub returns-then-at-as_slice-clause-own : goal.returns-then-at-as_slice-clause-own
returns-then-at-as_slice-clause-own c =
    let t = task_at c.args.self.now c.args.task in let p = c.pass_rest.new.self in
    let same = rest_passed c.task-at.result t p c.task-at.ensures c.pass_rest.ensures.others in
    rests_at (task_at c.put.new.self c.args.task) t p.at c.args.until t.ended
    (here c.args.trace.now c.args.task c.args.self.now c.requires.there c.requires.tasks c.put.new.self (record t { at = p.at; rest = c.args.until })
    (c.put.ensures.tasks ∙ ap (set c.args.self.now.tasks.items c.args.task) (c.resting.ensures ∙ ap (λ (x : TaskPlace). record x { rest = c.args.until }) same)))

pub returns-then-at-as_slice-clause-next : goal.returns-then-at-as_slice-clause-next
returns-then-at-as_slice-clause-next c =
    let t = task_at c.args.self.now c.args.task in let p = c.pass_rest.new.self in
    let same = rest_passed c.task-at.result t p c.task-at.ensures c.pass_rest.ensures.others in
    next_at c.args.trace.now c.args.task p.at c.task-at.result t (task_at c.put.new.self c.args.task) c.task-at.ensures
    (ap (λ (x : TaskPlace). x.at) (here c.args.trace.now c.args.task c.args.self.now c.requires.there c.requires.tasks c.put.new.self (record t { at = p.at; rest = c.args.until })
    (c.put.ensures.tasks ∙ ap (set c.args.self.now.tasks.items c.args.task) (c.resting.ensures ∙ ap (λ (x : TaskPlace). record x { rest = c.args.until }) same)))) c.pass_rest.ensures.next

pub returns-clause-own : goal.returns-clause-own
returns-clause-own c =
    let t = task_at c.args.self.now c.args.task in let p = c.pass_rest.new.self in
    let same = rest_passed c.task-at.result t p c.task-at.ensures c.pass_rest.ensures.others in
    rests_at (task_at c.put-2.new.self c.args.task) t p.at c.args.until true
    (put_here c.args.self.now c.end.new.self c.put-2.new.self c.args.task (record t { ended = true }) (record t { at = p.at; rest = c.args.until; ended = true }) c.end.ensures.tasks
    (c.put-2.ensures.tasks ∙ ap (set c.end.new.self.tasks.items c.args.task) (c.ended_at.ensures ∙ ap (λ (x : TaskPlace). record x { rest = c.args.until; ended = true }) same))
    (let long = c.requires.tasks.counted.tasks in let there = c.requires.there in omega arith))

pub returns-clause-next : goal.returns-clause-next
returns-clause-next c =
    let t = task_at c.args.self.now c.args.task in let p = c.pass_rest.new.self in
    let same = rest_passed c.task-at.result t p c.task-at.ensures c.pass_rest.ensures.others in
    next_at c.args.trace.now c.args.task p.at c.task-at.result t (task_at c.put-2.new.self c.args.task) c.task-at.ensures
    (ap (λ (x : TaskPlace). x.at) (put_here c.args.self.now c.end.new.self c.put-2.new.self c.args.task (record t { ended = true }) (record t { at = p.at; rest = c.args.until; ended = true }) c.end.ensures.tasks
    (c.put-2.ensures.tasks ∙ ap (set c.end.new.self.tasks.items c.args.task) (c.ended_at.ensures ∙ ap (λ (x : TaskPlace). record x { rest = c.args.until; ended = true }) same))
    (let long = c.requires.tasks.counted.tasks in let there = c.requires.there in omega arith))) c.pass_rest.ensures.next
