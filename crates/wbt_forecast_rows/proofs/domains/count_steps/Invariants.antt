use Rattle.std.proofs.Common.{◌≡◌, ℕ, ◌+◌, ◌++◌, length, take, drop, All}
use Rattle.wbt_forecast_rows.specs.Counts.{homes_of}
use Rattle.wbt_forecast_rows.specs.Small.{IsSmallDomain}
use Rattle.wbt_forecast_rows.specs.Tally.{by_number, domain_after}
use Rattle.wbt_forecast_rows.proofs.domains.count_steps.Given as goal

abbrev pub invariant-loop-domain : goal.invariant-loop-domain
invariant-loop-domain l = record {
  written : take l.domain l.tallies ++ by_number (domain_after (homes_of l.trace) l.steps) l.domain (drop l.domain l.tallies)
      ≡ by_number (domain_after (homes_of l.trace) l.steps) 0 l.initial.tallies;
  done : (most : ℕ) → All (IsSmallDomain most) l.initial.tallies → All (IsSmallDomain (most + length l.steps)) (take l.domain l.tallies);
  rest : (most : ℕ) → All (IsSmallDomain most) l.initial.tallies → All (IsSmallDomain most) (drop l.domain l.tallies);
}
