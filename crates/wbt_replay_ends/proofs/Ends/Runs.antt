-- The run ends, where an invariant says at each moment that the state is sound; and what is kept for it holds at each moment.
use Rattle.std.proofs.Common.{◌≡◌, ℕ, zero, suc, ◌≤◌, Bool, true, false, refl, arith}
use Rattle.wbt_replay_order.proofs.Common.{Trace, State, HasEnded, opening, advance, is_ended, run, most_moves, state_at, work_left, Ending, Facts, Sound}
use Rattle.wbt_replay_order.proofs.Growth.Most.{most_at}
use Rattle.wbt_replay_order.proofs.Growth.Runs.{run_along}
use Rattle.wbt_replay_ends.proofs.Ends.Items.{Ahead}
use Rattle.wbt_replay_ends.proofs.Ends.Opening.{opening_kept, opening_work}
use Rattle.wbt_replay_ends.proofs.Ends.Rounds.{advance_ahead}
use Rattle.wbt_replay_ends.proofs.Ends.Turning.{turning}

-- A move from a sound state keeps what is kept, and leaves less to be done.
pub moves_ahead : (trace : Trace) → Facts trace → (s : State) → Sound trace s → Ending trace s → is_ended s ≡ false → Ahead trace s (advance trace s)
moves_ahead trace facts s sound h going = advance_ahead trace facts s (turning trace s sound) h going

module _ (trace : Trace) (facts : Facts trace) (Q : State → Type 0) (sound : (s : State) → Q s → Sound trace s) (first : Q (opening trace))
    (on : (s : State) → is_ended s ≡ false → Q s → Q (advance trace s)) where
  abbrev Both : (s : State) → Type 0
  Both s = Q s × Ending trace s

  both_on : (s : State) → is_ended s ≡ false → Both s → Both (advance trace s)
  both_on s going h = (on s going h.0, (moves_ahead trace facts s (sound s h.0) h.1 going).kept)

  both_at : (moves : ℕ) → Both (state_at trace moves)
  both_at moves = run_along Both trace both_on moves (opening trace) (first, opening_kept trace)

  -- What is kept for the end holds at each moment.
  pub ending_at : (moves : ℕ) → Ending trace (state_at trace moves)
  ending_at moves = (both_at moves).1

  run_ends : (n : ℕ) (s : State) → Both s → work_left s ≤ n → is_ended (run trace n s) ≡ true
  unfolding run
  run_ends zero s h few = by_end (is_ended s) refl
    where
      by_end : (b : Bool) → is_ended s ≡ b → is_ended s ≡ true
      by_end true is = is
      by_end false is = absurd (let less = (moves_ahead trace facts s (sound s h.0) h.1 is).less in omega (arith, few, less))
  run_ends (suc n) s h few =
      by_end (is_ended s) refl (λ is. run_ends n (advance trace s) (both_on s is h) (let less = (moves_ahead trace facts s (sound s h.0) h.1 is).less in omega (arith, few, less)))
    where
      by_end : (b : Bool) → is_ended s ≡ b → (is_ended s ≡ false → is_ended (run trace n (advance trace s)) ≡ true)
          → is_ended (elim b as (λ _. State) [ true ↦ s | false ↦ run trace n (advance trace s) ]) ≡ true
      by_end true is behind = is
      by_end false is behind = behind is

  -- The run ends by itself.
  pub ended : HasEnded trace
  ended = (
    run_ends most_moves (opening trace) (first, opening_kept trace) (let work = opening_work trace facts in omega (arith, work)),
    (let few = (sound (state_at trace most_moves) (both_at most_moves).0).holds.few in omega (arith, few, most_at trace most_moves)),
  )
