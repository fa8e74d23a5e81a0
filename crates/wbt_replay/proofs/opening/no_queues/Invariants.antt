use Rattle.std.proofs.Common.{◌≡◌, replicate, []}
use Rattle.wbt_replay.proofs.opening.no_queues.Given as goal

abbrev pub invariant-loop : goal.invariant-loop
invariant-loop l = l.queues.items ≡ replicate l.counter []
