use Rattle.wbt_audit_turns.proofs.Flying.{placed_new}
use Rattle.wbt_audit_turns.proofs.flights.begin_all.Goals as goal

pub loop-flusher-preserved : goal.loop-flusher-preserved
loop-flusher-preserved c =
    placed_new c.args.flushers.now c.loop-flusher.flushers c.loop-flusher.flusher-index c.flusher-item.result c.begin.new.self c.loop-flusher-test.true c.loop-flusher.invariant
    c.flusher-item.is c.begin.ensures
