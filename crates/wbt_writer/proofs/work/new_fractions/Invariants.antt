use Rattle.std.proofs.Common.{◌≡◌, replicate}
use Rattle.wbt_writer.proofs.Common.{no_fractions}
use Rattle.wbt_writer.proofs.work.new_fractions.Given as goal

abbrev pub invariant-loop-context : goal.invariant-loop-context
invariant-loop-context l = l.all.items ≡ replicate l._context no_fractions
