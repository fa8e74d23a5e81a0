use Rattle.std.proofs.Common.{◌≡◌, ℕ, ◌<◌, ◌≤◌, []}
use Rattle.wbt_replay_order.proofs.Common.{first_cpu}
use Rattle.wbt_replay.proofs.round.next_from.Given as goal

abbrev pub invariant-loop-next : goal.invariant-loop-next
invariant-loop-next l = (i : ℕ) → l.place ≤ i → i < l.next → (first_cpu l.trace i).jobs ≡ []
