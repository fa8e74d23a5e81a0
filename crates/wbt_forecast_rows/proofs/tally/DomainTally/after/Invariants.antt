use Rattle.std.proofs.Common.{◌≡◌, ℕ, ◌+◌, ◌*◌, ◌≤◌, drop, unsigned_abs}
use Rattle.wbt_forecast_rows.specs.Counts.{homes_of}
use Rattle.wbt_forecast_rows.specs.Tally.{domain_after}
use Rattle.wbt_forecast_rows.proofs.tally.DomainTally.after.Given as goal

abbrev pub invariant-loop-step : goal.invariant-loop-step
invariant-loop-step l = record {
  same : domain_after (homes_of l.trace) (drop l.step-index l.steps) l.domain l.tally ≡ domain_after (homes_of l.trace) l.steps l.domain l.initial.tally;
  near : (least : ℕ) → unsigned_abs l.initial.tally.count ≤ 128 * least → unsigned_abs l.tally.count ≤ 128 * (least + l.step-index);
}
