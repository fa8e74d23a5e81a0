use Rattle.std.proofs.Common.{◌<◌, true, false, get_or, length, ap, arith}
use Rattle.wbt_audit_walk.proofs.Common.{rests_last}
use Rattle.wbt_audit.specs.Audited.{tasks_on, unsettled_task}
use Rattle.wbt_audit.proofs.Resting.{cpu_low, no_line, same_test, unsettled_on}
use Rattle.wbt_audit.proofs.unsettled.first_unsettled.Goals as goal

pub returns-then-is_unsettled : goal.returns-then-is_unsettled
returns-then-is_unsettled c =
    let trace = c.args.trace.now in
    let now = c.as_slice-line-items.result.now in
    let i = c.loop-task.task in
    let cpu = (get_or now i no_line).cpu in
    let same = ap length c.as_slice-line-items.ensures in
    let below : i < length trace.tasks = omega (arith, c.loop-task-test.true) in
    let low = cpu_low trace now i no_line c.as_slice-line-items.ensures c.loop-task-test.true c.requires.lawful.within.tasks in
    let there : cpu < length c.args.counts.now = omega (arith, c.requires.cpus) in
    unsettled_on trace now i no_line true (unsettled_task trace) c.as_slice-line-items.ensures c.loop-task-test.true
    (same_test c.is_unsettled.result true (get_or c.args.rests.now i false) (rests_last trace i) (get_or c.args.counts.now cpu 0) (tasks_on trace cpu) c.is_unsettled.ensures
    (c.requires.rests i below) (c.requires.tasks cpu there) c.if-is_unsettled.true)
    c.loop-task.invariant

pub loop-task-preserved : goal.loop-task-preserved
loop-task-preserved c =
    let trace = c.args.trace.now in
    let now = c.as_slice-line-items.result.now in
    let i = c.loop-task.task in
    let cpu = (get_or now i no_line).cpu in
    let same = ap length c.as_slice-line-items.ensures in
    let below : i < length trace.tasks = omega (arith, c.loop-task-test.true) in
    let low = cpu_low trace now i no_line c.as_slice-line-items.ensures c.loop-task-test.true c.requires.lawful.within.tasks in
    let there : cpu < length c.args.counts.now = omega (arith, c.requires.cpus) in
    unsettled_on trace now i no_line false (unsettled_task trace) c.as_slice-line-items.ensures c.loop-task-test.true
    (same_test c.is_unsettled.result false (get_or c.args.rests.now i false) (rests_last trace i) (get_or c.args.counts.now cpu 0) (tasks_on trace cpu) c.is_unsettled.ensures
    (c.requires.rests i below) (c.requires.tasks cpu there) c.if-is_unsettled.false)
    c.loop-task.invariant
