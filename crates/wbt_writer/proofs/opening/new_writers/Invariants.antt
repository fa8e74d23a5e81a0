use Rattle.std.proofs.Common.{◌≡◌, replicate}
use Rattle.wbt_writer.proofs.Common.{new_writer}
use Rattle.wbt_writer.proofs.opening.new_writers.Given as goal

abbrev pub invariant-loop-number : goal.invariant-loop-number
invariant-loop-number l = l.writers.items ≡ replicate l._number (new_writer l.cap)
