use Rattle.wbt_run_drain.proofs.Turning.{went_more}
use Rattle.wbt_run.proofs.working.clean_up.Goals as goal

pub returns-clause-went : goal.returns-clause-went
returns-clause-went g c =
    went_more c.args.trace.now c.args.sides.now c.drain.new.sides c.sweep.new.sides c.args.seats.now c.drain.new.seats c.sweep.new.seats c.drain.ensures.went c.sweep.ensures.went
