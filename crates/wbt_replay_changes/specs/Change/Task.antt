-- What becomes of a task alone.
use Rattle.std.specs.Prelude.{ℕ, List}
use Rattle.wbt_replay_moves.specs.declared.state.ReplayWork.{ReplayWork}

-- what becomes of a task alone
pub data TaskChange : Type 0 where
  -- it rests until a moment, and these works are left
  rested : (until : ℕ) (works : List ReplayWork) → TaskChange
  -- it pauses for its pace until a moment
  paused : (until : ℕ) → TaskChange
