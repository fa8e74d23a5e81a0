use Rattle.wbt_run_drain.specs.Ends.{IsOut}
use Rattle.wbt_run_drain.proofs.Found.{SofarNone}
use Rattle.wbt_run_drain.proofs.ending.some_post_ends.Given as goal

abbrev pub invariant-loop-post : goal.invariant-loop-post
invariant-loop-post g l = SofarNone (IsOut l.end) l.posts l.post-index
