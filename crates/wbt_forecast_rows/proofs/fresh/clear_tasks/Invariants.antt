use Rattle.std.proofs.Common.{◌≡◌, ◌++◌, map, take, drop}
use Rattle.wbt_forecast_rows.specs.Tally.{no_work}
use Rattle.wbt_forecast_rows.proofs.fresh.clear_tasks.Given as goal

abbrev pub invariant-loop-task : goal.invariant-loop-task
invariant-loop-task l = take l.task l.tallies ++ map (λ tally. no_work) (drop l.task l.tallies) ≡ map (λ tally. no_work) l.initial.tallies
