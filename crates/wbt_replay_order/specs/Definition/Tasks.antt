-- Where a task runs.
use Rattle.std.specs.Prelude.{ℕ, get_or, None}
use Rattle.wbt_trace.specs.declared.trace.Trace.{Trace}

-- the task's CPU
abbrev pub task_cpu : (trace : Trace) (task : ℕ) → ℕ
task_cpu trace task = (get_or trace.tasks task (record { cpu = 0; pace = None })).cpu
