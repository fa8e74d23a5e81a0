use Rattle.wbt_run_drain.proofs.Stopping.{ending_by}
use Rattle.wbt_run_drain.proofs.ending.ending_of.Goals as goal

pub returns-clause-ending : goal.returns-clause-ending
returns-clause-ending g c = λ cause. ending_by c.args.sides.now cause c.found_end.result c.found_end.ensures
