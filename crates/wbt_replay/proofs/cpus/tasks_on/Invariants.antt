use Rattle.std.proofs.Common.{◌≡◌, drop, []}
use Rattle.wbt_replay_order.specs.Definition.Opening as spec
use Rattle.wbt_replay.proofs.cpus.tasks_on.Given as goal

abbrev pub invariant-loop-number : goal.invariant-loop-number
invariant-loop-number l = spec.tasks_from l.cpu l.number (drop l.number l.trace.tasks) l.tasks ≡ spec.tasks_from l.cpu 0 l.trace.tasks []
