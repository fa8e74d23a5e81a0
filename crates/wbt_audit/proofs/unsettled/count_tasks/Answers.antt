use Rattle.wbt_audit.proofs.Resting.{none_counted, one_counted, all_counted}
use Rattle.wbt_audit.proofs.unsettled.count_tasks.Goals as goal

pub loop-line-init : goal.loop-line-init
loop-line-init c = none_counted c.args.trace.now c.args.counts.now c.requires

pub loop-line-preserved : goal.loop-line-preserved
loop-line-preserved c =
    one_counted c.args.trace.now c.as_slice-line-items.result.now c.loop-line.line-index _ c.loop-line.counts c.count_task.new.counts c.as_slice-line-items.ensures
    c.loop-line-test.true c.count_task.auto.counts c.in_ok-count_task.ensures c.loop-line.invariant

pub returns : goal.returns
returns c = λ cpu low.
    all_counted c.args.trace.now c.as_slice-line-items.result.now c.loop-line.line-index c.loop-line.counts c.args.counts.now c.as_slice-line-items.ensures
    c.loop-line-test.false c.loop-line.auto.counts c.loop-line.invariant cpu low
