use Rattle.std.proofs.Common.{◌≡◌}
use Rattle.wbt_replay_order.specs.Definition.Strict as spec
use Rattle.wbt_replay.proofs.strict.all_lines.Given as goal

abbrev pub invariant-loop-context : goal.invariant-loop-context
invariant-loop-context l = l.lines ≡ spec.lines_of l.trace l.steps l.cpus l.context
