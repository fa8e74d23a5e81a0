-- What becomes of the timer alone.
use Rattle.std.specs.Prelude.{ℕ}

-- what becomes of the timer alone
pub data TimerChange : Type 0 where
  -- it begins a turn
  began : TimerChange
  -- it reads a domain's count, and finds the limits
  read : (domain reading : ℕ) → TimerChange
  -- it rests until its next turn
  rested : TimerChange
