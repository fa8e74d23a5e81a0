use Rattle.std.proofs.Common.{◌≡◌, map}
use Rattle.wbt_replay_order.proofs.Common.{part_of}
use Rattle.wbt_replay.proofs.ordered.parts_of.Given as goal

abbrev pub invariant-loop-cpu : goal.invariant-loop-cpu
invariant-loop-cpu l = l.parts.items ≡ map part_of l.yielded
