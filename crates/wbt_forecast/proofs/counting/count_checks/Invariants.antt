use Rattle.std.proofs.Common.{◌≡◌, ℕ, ◌+◌, length, take}
use Rattle.wbt_forecast_rows.specs.Small.{AreSmall}
use Rattle.wbt_forecast_rows.specs.Tally.{after_checks}
use Rattle.wbt_forecast.specs.Kept.{all_checks}
use Rattle.wbt_forecast.proofs.counting.count_checks.Given as goal

abbrev pub invariant-loop-cpu : goal.invariant-loop-cpu
invariant-loop-cpu l = record {
  value : l.interval ≡ after_checks (all_checks (take l.cpu-index l.cpus)) l.initial.interval;
  small : (most : ℕ) → AreSmall most l.initial.interval → AreSmall (most + length (all_checks (take l.cpu-index l.cpus))) l.interval;
}
