use Rattle.std.proofs.Common.{sym, ◌∙◌}
use Rattle.wbt_task.specs.History.{HasRoom}
use Rattle.wbt_task.proofs.Running.{nothing_left, rest_allows, rest_leads}
use Rattle.wbt_task.proofs.history.run.Goals as goal

pub step-requires-clause-room : goal.step-requires-clause-room
step-requires-clause-room c =
    (rest_allows HasRoom c.args.ratelimit_pages c.args.cap _ c.args.history.now c.loop-event.event-index _ c.loop-event-test.true
    c.loop-event.invariant.room).0

pub loop-event-preserved : goal.loop-event-preserved
loop-event-preserved c = rw c.step.ensures (record {
  reaches = sym (rest_leads _ _ _ _ _ _ c.loop-event-test.true) ∙ c.loop-event.invariant.reaches;
  room = (rest_allows HasRoom _ _ _ _ _ _ c.loop-event-test.true c.loop-event.invariant.room).1;
})

pub returns : goal.returns
returns c = sym (nothing_left c.args.ratelimit_pages c.args.cap _ c.args.history.now c.loop-event.event-index c.loop-event-test.false) ∙ c.loop-event.invariant.reaches
