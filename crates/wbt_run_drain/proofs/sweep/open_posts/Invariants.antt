use Rattle.std.proofs.Common.{◌≡◌}
use Rattle.wbt_run_drain.specs.Swept.{reopened}
use Rattle.wbt_run_drain.proofs.Sofar.{sofar}
use Rattle.wbt_run_drain.proofs.sweep.open_posts.Given as goal

abbrev pub invariant-loop-at : goal.invariant-loop-at
invariant-loop-at g l = l.posts ≡ sofar (reopened l.device) l.initial.posts l.at
