-- What was paid for the next silent move, by what comes next.
use Rattle.std.specs.Prelude.{ℕ, Option, None, Some}
use Rattle.wbt_replay_moves.specs.declared.todo.TimerTodo.{TimerTodo}
use Rattle.wbt_replay_moves.specs.declared.todo.TimerTodo.TheVariants as timer_todo
use Rattle.wbt_replay_moves.specs.declared.todo.Todo.{Todo}
use Rattle.wbt_replay_moves.specs.declared.todo.Todo.TheVariants as todo
use Rattle.wbt_replay_order.specs.Kept.Horizon.{silent_credit, silent_ticks}

-- what was paid for a CPU's next item, in ticks
abbrev pub credit_at : (next : Option Todo) → ℕ
credit_at None = 0
credit_at (Some (todo.Step item)) = 0
credit_at (Some (todo.Silent item)) = silent_credit item

-- what was paid for the timer's next item, in ticks
abbrev pub timer_credit_at : (next : Option TimerTodo) → ℕ
timer_credit_at None = 0
timer_credit_at (Some (timer_todo.Step item)) = 0
timer_credit_at (Some (timer_todo.Silent item)) = silent_ticks
