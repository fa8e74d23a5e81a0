-- A run whose states are all in range.
use Rattle.std.specs.Prelude.{◌≡◌, ℕ, false}
use Rattle.wbt_trace.specs.declared.trace.Trace.{Trace}
use Rattle.wbt_replay_moves.specs.Definition.State.{State}
use Rattle.wbt_replay_order.specs.Definition.Opening.{opening}
use Rattle.wbt_replay_order.specs.Definition.Order.{advance, is_ended}
use Rattle.wbt_replay_order.specs.Definition.Run.{state_at}
use Rattle.wbt_replay_order.specs.Kept.Sound.{Sound, HasRoom}

-- the state is in range, and the own numbers of its CPUs have room for the steps that are left
abbrev pub IsInRange : (trace : Trace) (s : State) → Type 0
IsInRange trace s = Sound trace s × HasRoom trace s

-- The opening is in range, each move keeps it so, and so each state of the run is.
pub record StaysInRange (trace : Trace) : Type 0 where
  pub first : IsInRange trace (opening trace)
  pub on : (s : State) → is_ended s ≡ false → IsInRange trace s → IsInRange trace (advance trace s)
  pub sound : (moves : ℕ) → Sound trace (state_at trace moves)
  pub room : (moves : ℕ) → HasRoom trace (state_at trace moves)
