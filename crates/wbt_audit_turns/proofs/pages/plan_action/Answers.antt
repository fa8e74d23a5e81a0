use Rattle.std.proofs.Common.{◌<◌, ap, arith, length}
use Rattle.wbt_audit_turns.specs.Planned.{TaskPages}
use Rattle.wbt_audit_walk.proofs.Paged.{end_below}
use Rattle.wbt_audit_turns.proofs.Planning.{write_planned_by}
use Rattle.wbt_audit_turns.proofs.pages.plan_action.Goals as goal

pub overflow_add-first : goal.overflow_add-first
overflow_add-first c =
    let may = rw c.in-Write.is at c.requires.action in
    let end = end_below 0 c.in-Write.inode c.args.trace.now.inodes c.requires.lawful.within.inodes.firsts may.1 in
    let few = c.requires.lawful.within.inodes.total in
    let room = may.3 in
    let is = c.first_of.ensures in omega arith

pub push-requires-clause-there : goal.push-requires-clause-there
push-requires-clause-there c =
    let may = rw c.in-Write.is at c.requires.action in
    let end = end_below 0 c.in-Write.inode c.args.trace.now.inodes c.requires.lawful.within.inodes.firsts may.1 in
    let few = c.requires.lawful.within.inodes.total in
    let room = may.3 in
    let is = c.first_of.ensures in omega arith

pub returns-in_ok-push-in-Write : goal.returns-in_ok-push-in-Write
returns-in_ok-push-in-Write c = λ actions are.
    let may = rw c.in-Write.is at c.requires.action in
    let same = c.requires.tasks in
    let low : c.in-Write.task < length c.args.plans.now = omega (arith, may.0) in
    write_planned_by c.args.trace.now c.args.plans.now actions c.in-Write.task c.in-Write.inode c.in-Write.from c.in-Write.pages c.index-plans-task.result c.push.new.self
    (rw c.in-Write.is at are) low c.first_of.result c.first_of.ensures (ap (λ (p : TaskPages). p.all) c.in_ok-push-in-Write.ensures)
