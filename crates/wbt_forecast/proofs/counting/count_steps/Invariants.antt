use Rattle.std.proofs.Common.{◌≡◌, ℕ, ◌+◌, ◌-◌, length, replicate}
use Rattle.wbt_forecast_rows.specs.Small.{AreSmall}
use Rattle.wbt_forecast_rows.specs.Tally.{after_steps}
use Rattle.wbt_replay_order.proofs.Common.{no_step}
use Rattle.wbt_forecast.proofs.counting.count_steps.Given as goal

abbrev pub invariant-loop-step : goal.invariant-loop-step
invariant-loop-step l = record {
  value : l.interval ≡ after_steps l.trace (replicate (l._step - length l.kept) no_step) l.initial.interval;
  small : (most : ℕ) → AreSmall most l.initial.interval → AreSmall (most + (l._step - length l.kept)) l.interval;
}
