use Rattle.std.proofs.Common.{◌∙◌, refl, arith}
use Rattle.wbt_forecast_rows.specs.Tally.{no_work}
use Rattle.wbt_forecast_rows.proofs.Looping.{cleared_next}
use Rattle.wbt_forecast_rows.proofs.fresh.clear_tasks.Goals as goal

pub loop-task-preserved : goal.loop-task-preserved
loop-task-preserved c =
    cleared_next (λ tally. no_work) c.loop-task.tallies c.loop-task.task no_work no_work (omega arith) refl ∙ c.loop-task.invariant
