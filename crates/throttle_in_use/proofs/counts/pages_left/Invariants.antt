use Rattle.std.proofs.Common.{◌≤◌}
use Rattle.throttle_in_use.proofs.counts.pages_left.Given as goal

abbrev pub invariant-loop-page : goal.invariant-loop-page
invariant-loop-page l = l.left ≤ l.page
