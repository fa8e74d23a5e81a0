use Rattle.std.proofs.Common.{◌≡◌, ◌≤◌, ℕ, length}
use Rattle.wbt_expiry.specs.Paths.{path_of, times_in, Ends}
use Rattle.wbt_expiry.proofs.walks.number_before.Given as goal

abbrev pub invariant-walk : goal.invariant-walk
invariant-walk l = record {
  ends : Ends l.nexts l.before;
  ahead : 1 ≤ times_in l.number (path_of l.nexts l.before);
  differs : l.before ≡ l.number → ⊥;
  on : 1 ≤ times_in l.before (path_of l.nexts l.first);
  part : (x : ℕ) → times_in x (path_of l.nexts l.before) ≤ times_in x (path_of l.nexts l.first);
}

abbrev pub decreases-walk : goal.decreases-walk
decreases-walk l = length (path_of l.nexts l.before)
