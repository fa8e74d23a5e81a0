use Rattle.wbt_table.proofs.Joining.{TakenTo}
use Rattle.wbt_table.proofs.seat.Throttle.take_lefts.Given as goal

abbrev pub invariant-loop-w : goal.invariant-loop-w
invariant-loop-w l = TakenTo l.fn.self.layout l.w l.cpus l.initial.into.items l.from l.into.items
