-- The pages that a count reads.
use Rattle.std.proofs.Common.{ℕ, ◌≤◌, ℤ, pos, negsuc, unsigned_abs, arith}
use Rattle.wbt_counter.specs.History.{at_least_zero}

-- A count of few pages reads few.
pub reads_few : (n : ℤ) (most : ℕ) → unsigned_abs n ≤ most → at_least_zero n ≤ most
reads_few (pos n) most few = few
reads_few (negsuc n) most few = omega arith
