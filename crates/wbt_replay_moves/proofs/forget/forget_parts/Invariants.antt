use Rattle.std.proofs.Common.{◌≡◌, ◌++◌, map, take, drop}
use Rattle.wbt_replay_moves.specs.Definition.Forget.{bare}
use Rattle.wbt_replay_moves.proofs.forget.forget_parts.Given as goal

abbrev pub invariant-loop-cpu : goal.invariant-loop-cpu
invariant-loop-cpu l = l.cpus ≡ map bare (take l.cpu-index l.initial.cpus) ++ drop l.cpu-index l.initial.cpus
