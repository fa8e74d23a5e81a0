-- What becomes of a CPU alone: of its turn, its own numbers and the limits that it holds.
use Rattle.std.specs.Prelude.{ℕ, Bool, ℤ, List}
use Rattle.wbt_counter.specs.declared.counter.Counter.{Counter}
use Rattle.wbt_replay_moves.specs.declared.state.Whose.{Whose}
use Rattle.wbt_replay_moves.specs.declared.todo.Todo.{Todo}

-- what becomes of a CPU alone: of its turn, its own numbers and the limits that it holds
pub data CpuChange : Type 0 where
  -- it begins a turn
  began : (whose : Whose) → CpuChange
  -- it does these items next, or last
  planned : (items : List Todo) → CpuChange
  appended : (items : List Todo) → CpuChange
  -- an event is added to its own number of a counter, which is full or not; and the number is cleared
  added : (counter : Counter) (change : ℤ) → CpuChange
  cleared : (counter : Counter) → CpuChange
  -- it finds a domain's sequence word, and then holds its limits where they were read whole
  found : (domain : ℕ) → CpuChange
  held : (domain : ℕ) → CpuChange
  -- it reads a shared count
  read : (counter : Counter) → CpuChange
  -- a context that it weighed is over its own part of a background threshold, or isn't
  weighed : (over : Bool) → CpuChange
