use Rattle.wbt_expiry.proofs.Filing.{IsDescending}
use Rattle.wbt_expiry.proofs.filed.Filed.take.Given as goal

abbrev pub invariant-levels : goal.invariant-levels
invariant-levels l = IsDescending l.levels l.initial.self.dues.items l.initial.self.lists l.self.base l.self.dues.items l.self.lists

abbrev pub decreases-levels : goal.decreases-levels
decreases-levels l = l.levels
