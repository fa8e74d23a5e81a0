use Rattle.std.proofs.Common.{◌≡◌, ◌++◌, take, flat_map}
use Rattle.wbt_forecast_rows.specs.Text.{task_text}
use Rattle.wbt_forecast_rows.proofs.text.put_tasks.Given as goal

abbrev pub invariant-loop-row : goal.invariant-loop-row
invariant-loop-row l = l.text.items ≡ l.initial.text.items ++ flat_map task_text (take l.row-index l.rows)
