use Rattle.std.proofs.Common.{take}
use Rattle.wbt_replay_order.specs.Kept.Strict.{AreParts}
use Rattle.wbt_replay.proofs.strict.parts_of.Given as goal

abbrev pub invariant-loop-cpu : goal.invariant-loop-cpu
invariant-loop-cpu l = AreParts l.trace (take l.cpu-index l.cpus) l.parts
