use Rattle.std.proofs.Common.{arith}
use Rattle.table_bench.proofs.Timing.{timed_part}
use Rattle.table_bench.proofs.timed.on_one.Goals as goal

pub time_part-requires-clause-part : goal.time_part-requires-clause-part
time_part-requires-clause-part g c = timed_part c.args.throttle.now.layout c.part.result 0 c.requires.layout c.part.ensures (omega arith)
