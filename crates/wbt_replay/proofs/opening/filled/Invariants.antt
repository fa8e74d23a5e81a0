use Rattle.std.proofs.Common.{◌≡◌, replicate}
use Rattle.wbt_replay.proofs.opening.filled.Given as goal

abbrev pub invariant-loop : goal.invariant-loop
invariant-loop g l = l.list.items ≡ replicate l.counter l.value
