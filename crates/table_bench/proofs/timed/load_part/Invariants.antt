use Rattle.wbt_table.specs.Callers.{StepsFor}
use Rattle.table_bench.proofs.timed.load_part.Given as goal

abbrev pub invariant-loop-check : goal.invariant-loop-check
invariant-loop-check l = StepsFor l.throttle l.part.cpu l.seat
