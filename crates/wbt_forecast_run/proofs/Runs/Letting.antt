-- Where a run is let on its state stays in range, and so it does by each move.
use Rattle.std.proofs.Common.{ℕ, zero, suc, ◌&&◌}
use Rattle.std.proofs.lemmas.Bool.{and_parts}
use Rattle.wbt_replay_order.proofs.Common.{Trace, extended, State, opening, advance, is_ended, is_full, Facts, fits_further, IsInRange}
use Rattle.wbt_replay_order.proofs.Facts.Facts.{facts}
use Rattle.wbt_replay_order.proofs.Facts.Lists.{either}
use Rattle.wbt_replay_order.proofs.Further.Extended.{extended_sound, extended_room}
use Rattle.wbt_replay_order.proofs.Further.Forgotten.{forgotten_sound, forgotten_room}
use Rattle.wbt_replay_order.proofs.Outset.Sound.{opening_sound, opening_room}
use Rattle.wbt_replay_ranges.proofs.Sound.Advances.{sound_kept}
use Rattle.wbt_forecast_run.specs.Claims.{RunsStaySound}
use Rattle.wbt_forecast_run.specs.Run.{let_on, moved, state_after}

pub let_on_range : (trace : Trace) (s : State) → IsInRange trace s → IsInRange trace (let_on s)
let_on_range trace s h = either (IsInRange trace) (is_full s && fits_further s) (extended s) s
    (λ is. (extended_sound trace s (and_parts (is_full s) (fits_further s) is).1 h.0, extended_room trace s h.1))
    (λ no. h)

pub advance_range : (trace : Trace) → Facts trace → (s : State) → IsInRange trace s → IsInRange trace (advance trace s)
advance_range trace known s h = sound_kept trace known s h.0 h.1

pub moved_range : (trace : Trace) → Facts trace → (s : State) → IsInRange trace s → IsInRange trace (moved trace s)
moved_range trace known s h = either (IsInRange trace) (is_ended s) s (advance trace (let_on s))
    (λ over. h)
    (λ going. advance_range trace known (let_on s) (let_on_range trace s h))

pub range_at : (trace : Trace) → Facts trace → IsInRange trace (opening trace) → (moves : ℕ) → IsInRange trace (state_after trace moves)
unfolding state_after
range_at trace known first zero = first
range_at trace known first (suc moves) = moved_range trace known (state_after trace moves) (range_at trace known first moves)

pub runs_stay_sound : RunsStaySound
runs_stay_sound = λ trace lawful. record {
  facts = facts trace lawful;
  lets = let_on_range trace;
  on = moved_range trace (facts trace lawful);
  forgets = λ s h. (forgotten_sound trace s h.0, forgotten_room trace s h.1);
  at = range_at trace (facts trace lawful) (opening_sound trace lawful, opening_room trace);
}
