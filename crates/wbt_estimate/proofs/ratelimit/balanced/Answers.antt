use Rattle.std.proofs.Common.{arith, lit<}
use Rattle.std.proofs.lemmas.Nat.{le_or_r, or_lt}
use Rattle.wbt_estimate.proofs.ratelimit.balanced.Goals as goal

pub overflow_cast-balanced-2 : goal.overflow_cast-balanced-2
overflow_cast-balanced-2 c = record { fits = omega (arith, or_lt 64 c.args.rate 1 c.ranges.rate.fits (lit< tt)) }

pub nonzero_div-balanced : goal.nonzero_div-balanced
nonzero_div-balanced c = omega (arith, le_or_r c.args.rate 1)
