use Rattle.std.proofs.Common.{◌≤◌, ◌⊎◌, ℕ, length}
use Rattle.wbt_expiry.specs.Lists.{IsUpTo}
use Rattle.wbt_expiry.specs.Paths.{path_of, times_in, Ends}
use Rattle.wbt_expiry.proofs.walks.least_on.Given as goal

abbrev pub invariant-walk : goal.invariant-walk
invariant-walk l = record {
  there : 1 ≤ times_in l.least (path_of l.nexts l.first);
  ends : Ends l.nexts l.at;
  part : (x : ℕ) → times_in x (path_of l.nexts l.at) ≤ times_in x (path_of l.nexts l.first);
  seen : (x : ℕ) → 1 ≤ times_in x (path_of l.nexts l.first) → IsUpTo l.dues l.least x ⊎ (1 ≤ times_in x (path_of l.nexts l.at));
}

abbrev pub decreases-walk : goal.decreases-walk
decreases-walk l = length (path_of l.nexts l.at)
