use Rattle.wbt_expiry.specs.Filed.{IsFrom}
use Rattle.wbt_expiry.proofs.filed.Filed.first_below.Given as goal

abbrev pub invariant-levels : goal.invariant-levels
invariant-levels l = IsFrom l.level l.self.lists
