use Rattle.std.proofs.Common.{◌≡◌, replicate}
use Rattle.wbt_replay_moves.specs.Definition.State.{no_step}
use Rattle.wbt_replay_moves.proofs.steps.all_steps.Given as goal

abbrev pub invariant-loop : goal.invariant-loop
invariant-loop l = l.steps.items ≡ replicate l.counter no_step
