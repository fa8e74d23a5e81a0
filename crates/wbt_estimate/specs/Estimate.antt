-- Estimates: the first, the next, and what any list of samples makes of them. Rates are in pages a second, moments in
-- ticks of a millisecond.
use Rattle.std.specs.Prelude.{ℕ, ◌+◌, ◌-◌, ◌^◌, ◌<◌, ◌≤◌, nat_lt, if◌then◌else◌, Option, Some, None, unwrap_or, List, fold}
use Rattle.wbt_estimate.specs.declared.estimate.Estimate.{Estimate}
use Rattle.wbt_estimate.specs.declared.estimate.Sample.{Sample}
use Rattle.wbt_estimate.specs.declared.estimate.TheConstants.{ESTIMATE_AGE, FIRST_RATE}
use Rattle.wbt_estimate.specs.Bandwidth.{average_after, bandwidth_after}
use Rattle.wbt_estimate.specs.RateLimit.{balanced_rate, damped_step, dirty_rate, ratelimit_after, task_rate, whole_step}

-- before anything is known, all four rates are `FIRST_RATE`
unfoldable pub first_at : (now : ℕ) → Estimate
first_at now = record {
  version = 0;
  bw = FIRST_RATE;
  avg = FIRST_RATE;
  ratelimit = FIRST_RATE;
  balanced = FIRST_RATE;
  written_stamp = 0;
  dirtied_stamp = 0;
  at = now;
}

-- ticks since the estimate was made; 0 where the clock went back
abbrev pub elapsed_since : (old : Estimate) (sample : Sample) → ℕ
elapsed_since old sample = sample.now - old.at

-- the rates of the next estimate
abbrev pub balanced_next : (old : Estimate) (sample : Sample) → ℕ
balanced_next old sample =
    balanced_rate (task_rate old.ratelimit sample.ratio) old.avg
    (dirty_rate sample.dirtied old.dirtied_stamp (elapsed_since old sample))

-- the next rate limit of the context's writers, a damped step from the old one toward the balanced rate
abbrev pub ratelimit_next : (old : Estimate) (sample : Sample) → ℕ
ratelimit_next old sample =
    let balanced : ℕ = balanced_next old sample in
    let step : ℕ = whole_step sample.below_setpoint old.ratelimit old.balanced balanced (task_rate old.ratelimit sample.ratio) in
    ratelimit_after old.ratelimit balanced (damped_step old.ratelimit step)

-- the next bandwidth, from the pages written since the old estimate
abbrev pub bandwidth_next : (old : Estimate) (sample : Sample) → ℕ
bandwidth_next old sample = bandwidth_after old.bw sample.written old.written_stamp (elapsed_since old sample)

-- the next average bandwidth, which follows the bandwidth more slowly
abbrev pub average_next : (old : Estimate) (sample : Sample) → ℕ
average_next old sample = average_after old.avg old.bw (bandwidth_next old sample) (elapsed_since old sample)

-- the next estimate; its rate limit comes of the old average
unfoldable pub updated : (old : Estimate) (sample : Sample) → Estimate
updated old sample = record {
  version = old.version + 1;
  bw = bandwidth_next old sample;
  avg = average_next old sample;
  ratelimit = ratelimit_next old sample;
  balanced = balanced_next old sample;
  written_stamp = sample.written;
  dirtied_stamp = sample.dirtied;
  at = sample.now;
}

-- none where fewer than `ESTIMATE_AGE` ticks passed
unfoldable pub update_of : (old : Estimate) (sample : Sample) → Option Estimate
update_of old sample = if nat_lt (elapsed_since old sample) ESTIMATE_AGE then None else Some (updated old sample)

-- what a list of samples, in order, makes of an estimate: those that come too early leave it as it is
unfoldable pub estimate_after : (start : Estimate) (samples : List Sample) → Estimate
estimate_after start samples = fold (λ old sample. unwrap_or (update_of old sample) old) start samples

-- An estimate that may be published: no rate is out of range, the two that divide aren't 0, and versions didn't outrun
-- the clock.
pub record IsSound (estimate : Estimate) : Type 0 where
  pub bandwidth : estimate.bw < 2 ^ 44
  pub average : (1 ≤ estimate.avg) × (estimate.avg < 2 ^ 44)
  pub ratelimit : (1 ≤ estimate.ratelimit) × (estimate.ratelimit < 2 ^ 44)
  pub balanced : estimate.balanced < 2 ^ 44
  pub moment : estimate.at < 2 ^ 62
  pub version : estimate.version ≤ estimate.at + 2 ^ 32

-- a sample that can be measured: page totals, ratio and moment in range
pub record IsInRange (sample : Sample) : Type 0 where
  pub written : sample.written < 2 ^ 40
  pub dirtied : sample.dirtied < 2 ^ 40
  pub ratio : sample.ratio < 2 ^ 32
  pub moment : sample.now < 2 ^ 62
