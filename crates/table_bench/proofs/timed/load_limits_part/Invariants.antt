use Rattle.wbt_table.specs.Callers.{StepsFor}
use Rattle.table_bench.proofs.timed.load_limits_part.Given as goal

abbrev pub invariant-loop-time : goal.invariant-loop-time
invariant-loop-time l = StepsFor l.throttle l.part.cpu l.seat
