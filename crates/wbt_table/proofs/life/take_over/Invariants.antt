use Rattle.std.proofs.Common.{◌≡◌}
use Rattle.wbt_table.proofs.Joining.{followed, taking}
use Rattle.wbt_table.proofs.life.take_over.Given as goal

abbrev pub invariant-loop-i : goal.invariant-loop-i
invariant-loop-i l = l.into.items ≡ followed taking l.i l.from l.initial.into.items
