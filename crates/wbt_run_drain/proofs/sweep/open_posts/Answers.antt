use Rattle.std.proofs.Common.{◌<◌, ℕ, sym, ◌∙◌, subst}
use Rattle.wbt_run_drain.specs.Swept.{reopened}
use Rattle.wbt_run_drain.proofs.Opened.{opens_next, skips_next}
use Rattle.wbt_run_drain.proofs.Sofar.{sofar_all, sofar_none}
use Rattle.wbt_run_drain.proofs.sweep.open_posts.Goals as goal
use Rattle.wbt_run_drain.proofs.sweep.open_posts.Goals.{then-posts-at, else-posts-at}

pub loop-at-init : goal.loop-at-init
loop-at-init g c = sym (sofar_none (reopened c.args.device) c.args.posts.now)

pub loop-at-preserved : goal.loop-at-preserved
loop-at-preserved g c = elim c.if-posts-at.branch [
  | then-posts-at w ↦ w.posts-is ∙ opens_next c.args.device c.args.posts.now c.loop-at.posts c.loop-at.at c.loop-at.invariant c.index-posts-at.result
      w.index-posts-at-then-posts-at.result (subst (λ (n : ℕ). c.loop-at.at < n) (sym c.loop-at.auto.posts) c.loop-at-test.true) w.if-posts-at.true
  | else-posts-at w ↦ w.posts-is ∙ skips_next c.args.device c.args.posts.now c.loop-at.posts c.loop-at.at c.loop-at.invariant c.index-posts-at.result w.if-posts-at.false
]

pub returns : goal.returns
returns g c = c.loop-at.invariant ∙ sofar_all (reopened c.args.device) c.args.posts.now c.loop-at.at c.loop-at-test.false
