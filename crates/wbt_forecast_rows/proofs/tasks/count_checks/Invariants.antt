use Rattle.std.proofs.Common.{◌≡◌, ℕ, ◌+◌, take, All}
use Rattle.wbt_forecast_rows.specs.Small.{IsSmallTask}
use Rattle.wbt_forecast_rows.specs.Tally.{by_number, task_after_checks}
use Rattle.wbt_forecast_rows.proofs.tasks.count_checks.Given as goal

abbrev pub invariant-loop-check : goal.invariant-loop-check
invariant-loop-check l = record {
  counted : l.tallies ≡ by_number (task_after_checks (take l.check-index l.checks)) 0 l.initial.tallies;
  small : (most : ℕ) → All (IsSmallTask most) l.initial.tallies → All (IsSmallTask (most + l.check-index)) l.tallies;
}
