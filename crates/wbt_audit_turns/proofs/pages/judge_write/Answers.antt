use Rattle.std.proofs.Common.{◌<◌, length, sym, ◌∙◌, arith}
use Rattle.wbt_audit_turns.specs.Written.{ShowsWritten}
use Rattle.wbt_audit_turns.proofs.Planning.{own_low, write_strange, write_refused, write_done}
use Rattle.wbt_audit_turns.proofs.pages.judge_write.Goals as goal

pub returns-then-not-is_own_task : goal.returns-then-not-is_own_task
returns-then-not-is_own_task c = λ fresh s shows.
    write_strange c.args.trace.now c.args.plans.now s (ShowsWritten c.args.trace.now c.args.plans.now) c.args.cpu c.args.task c.args.page fresh
    (sym c.is_own_task.ensures ∙ c.if-not-is_own_task.true)

pub bounds-plans-task : goal.bounds-plans-task
bounds-plans-task c =
    let low = own_low c.args.trace.now.tasks c.args.task c.args.cpu (sym c.is_own_task.ensures ∙ c.if-not-is_own_task.false) in
    let same = c.requires.tasks in omega arith

pub returns-then-write : goal.returns-then-write
returns-then-write c = λ fresh s shows.
    let own = sym c.is_own_task.ensures ∙ c.if-not-is_own_task.false in
    let low = own_low c.args.trace.now.tasks c.args.task c.args.cpu own in
    let same = c.requires.tasks in
    let below : c.args.task < length c.args.plans.now = omega arith in
    write_done c.args.trace.now c.args.plans.now s c.args.cpu c.args.task c.args.page fresh c.index-plans-task.result c.write.new.self shows below own
    c.if-write.ensures.next c.if-write.ensures.left

pub returns-else-write : goal.returns-else-write
returns-else-write c = λ fresh s shows.
    let own = sym c.is_own_task.ensures ∙ c.if-not-is_own_task.false in
    let low = own_low c.args.trace.now.tasks c.args.task c.args.cpu own in
    let same = c.requires.tasks in
    let below : c.args.task < length c.args.plans.now = omega arith in
    write_refused c.args.trace.now c.args.plans.now s (ShowsWritten c.args.trace.now _) c.args.cpu c.args.task c.args.page fresh c.index-plans-task.result shows below own
    c.if-write.ensures.next
