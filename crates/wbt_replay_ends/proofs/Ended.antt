-- How a run whose states are in range ends.
use Rattle.std.proofs.Common.{ℕ}
use Rattle.wbt_replay_order.proofs.Common.{IsLawful, Trace, HasEnded, CompletesAll, state_at, Ending, IsInRange, StaysInRange}
use Rattle.wbt_replay_order.proofs.Facts.Facts.{facts}
use Rattle.wbt_replay_ends.proofs.Ends.Runs as ends
use Rattle.wbt_replay_ends.proofs.Waiting.Over.{completes_all}

pub runs_end : (trace : Trace) → IsLawful trace → StaysInRange trace → HasEnded trace
runs_end trace lawful stays = ends.ended trace (facts trace lawful) (IsInRange trace) (λ s k. k.0) stays.first stays.on

pub ending_at : (trace : Trace) → IsLawful trace → StaysInRange trace → (moves : ℕ) → Ending trace (state_at trace moves)
ending_at trace lawful stays moves = ends.ending_at trace (facts trace lawful) (IsInRange trace) (λ s k. k.0) stays.first stays.on moves

pub runs_complete : (trace : Trace) → IsLawful trace → StaysInRange trace → CompletesAll trace
runs_complete trace lawful stays = completes_all trace lawful stays.sound (runs_end trace lawful stays)
