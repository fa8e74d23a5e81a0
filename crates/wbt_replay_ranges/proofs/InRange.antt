-- Each state of a run is in range.
use Rattle.std.proofs.Common.{ℕ}
use Rattle.wbt_replay_order.proofs.Common.{IsLawful, Trace, opening, state_at, IsInRange, StaysInRange}
use Rattle.wbt_replay_order.proofs.Facts.Facts.{facts}
use Rattle.wbt_replay_order.proofs.Outset.Sound.{opening_sound, opening_room}
use Rattle.wbt_replay_ranges.proofs.Sound.Advances.{sound_kept, state_sound}

pub stays_in_range : (trace : Trace) → IsLawful trace → StaysInRange trace
stays_in_range trace lawful =
    let known = facts trace lawful in
    let first : IsInRange trace (opening trace) = (opening_sound trace lawful, opening_room trace) in
    let at : (moves : ℕ) → IsInRange trace (state_at trace moves) = λ moves. state_sound trace known moves first.0 first.1 in
    record { first = first; on = λ s going k. sound_kept trace known s k.0 k.1; sound = λ moves. (at moves).0; room = λ moves. (at moves).1 }
