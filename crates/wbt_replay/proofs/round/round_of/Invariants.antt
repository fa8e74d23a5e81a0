use Rattle.std.proofs.Common.{◌≡◌, ℕ, ◌<◌, length, get_or}
use Rattle.wbt_replay_order.specs.Kept.Round.{IsNext}
use Rattle.wbt_replay.proofs.round.round_of.Given as goal

abbrev pub invariant-loop-place : goal.invariant-loop-place
invariant-loop-place l = record {
  many : length l.round ≡ l.place;
  each : (p : ℕ) → p < l.place → IsNext l.trace p (get_or l.round p 0);
}
