use Rattle.std.proofs.Common.{◌≡◌, ◌+◌, drop, fold, sum_by}
use Rattle.wbt_replay_moves.specs.Definition.Writer.{leaked}
use Rattle.wbt_replay_moves.proofs.state.ReplayTask.leak.Given as goal

abbrev pub invariant-loop-context : goal.invariant-loop-context
invariant-loop-context l =
    (fold leaked l.local (drop l.context l.self.writers) ≡ fold leaked l.initial.local l.self.writers)
    × (l.local.leaks + sum_by (λ w. w.task.nr_dirtied) (drop l.context l.self.writers)
    ≡ l.initial.local.leaks + sum_by (λ w. w.task.nr_dirtied) l.self.writers)
