use Rattle.std.proofs.Common.{◌≡◌, replicate}
use Rattle.wbt_table.proofs.life.filled.Given as goal

abbrev pub invariant-loop-i : goal.invariant-loop-i
invariant-loop-i l = l.cpus.items ≡ replicate l._i l.state
