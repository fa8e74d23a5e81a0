use Rattle.wbt_run_drain.specs.Ends.{GoesOn}
use Rattle.wbt_run_drain.proofs.Found.{SofarEach}
use Rattle.wbt_run_drain.proofs.ending.all_go_on.Given as goal

abbrev pub invariant-loop-post : goal.invariant-loop-post
invariant-loop-post g l = SofarEach GoesOn l.posts l.post-index
