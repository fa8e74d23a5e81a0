use Rattle.std.proofs.Common.{◌<◌, get_or, sym, subst, ℕ}
use Rattle.wbt_writer.proofs.Common.{no_task}
use Rattle.wbt_writer.proofs.opening.first_tasks.Goals as goal

pub returns-clause-each : goal.returns-clause-each
returns-clause-each c = λ t less. (
  get_or c.see_actions.new.tasks.items t no_task,
  c.see_actions.ensures.seen t less,
  c.begin_each.ensures.each t (subst (λ (k : ℕ). t < k) (sym c.see_actions.ensures.long) less),
)
