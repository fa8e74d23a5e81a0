-- What holds of estimates after any samples, and of the rates of the next estimate.
use Rattle.std.specs.Prelude.{ℕ, ◌≡◌, ◌+◌, ◌^◌, ◌<◌, ◌≤◌, min, max, true, false, List, All, fold, length}
use Rattle.std.specs.Int.{div_ceil}
use Rattle.wbt_estimate.specs.declared.estimate.Estimate.{Estimate}
use Rattle.wbt_estimate.specs.declared.estimate.Sample.{Sample}
use Rattle.wbt_estimate.specs.Bandwidth.{average_after, bandwidth_after, measured}
use Rattle.wbt_estimate.specs.Estimate.{IsInRange, IsSound, balanced_next, estimate_after, first_at, ratelimit_next, updated}
use Rattle.wbt_estimate.specs.RateLimit.{damped_step, greatest_rate, least_rate, task_rate}
use Rattle.wbt_estimate.specs.Samples.{AreApart, taken}

-- a sound estimate stays sound through any list of samples in range
abbrev pub StaysSound : Type 0
StaysSound = (start : Estimate) (samples : List Sample) → IsSound start → All IsInRange samples
    → IsSound (estimate_after start samples)

-- so is whatever comes of the first estimate
abbrev pub SoundFromTheFirst : Type 0
SoundFromTheFirst = (now : ℕ) (samples : List Sample) → now < 2 ^ 62 → All IsInRange samples
    → IsSound (estimate_after (first_at now) samples)

-- ---- the samples

-- an estimate is the fold over those of its samples that don't come too early, each of which makes the next estimate
abbrev pub FoldsTaken : Type 0
FoldsTaken = (start : Estimate) (samples : List Sample)
    → estimate_after start samples ≡ fold updated start (taken start.at samples)

-- these are at least `ESTIMATE_AGE` ticks apart
abbrev pub TakenAreApart : Type 0
TakenAreApart = (since : ℕ) (samples : List Sample) → AreApart since (taken since samples)

-- and of samples that are so all are taken
abbrev pub ApartAreTaken : Type 0
ApartAreTaken = (since : ℕ) (samples : List Sample) → AreApart since samples → taken since samples ≡ samples

-- each raises the version by one
abbrev pub VersionsCount : Type 0
VersionsCount = (start : Estimate) (samples : List Sample)
    → (estimate_after start samples).version ≡ start.version + length (taken start.at samples)

-- ---- the bandwidth

-- the new bandwidth lies between the old one and the measured one, rounded down
abbrev pub BandwidthIsBetween : Type 0
BandwidthIsBetween = (bw written stamp elapsed : ℕ) → 1 ≤ elapsed
    → (min bw (measured written stamp elapsed) ≤ bandwidth_after bw written stamp elapsed)
    × (bandwidth_after bw written stamp elapsed ≤ max bw (measured written stamp elapsed))

-- the new average, of an old one of at least 1, lies between that and the new bandwidth
abbrev pub AverageIsBetween : Type 0
AverageIsBetween = (avg old bw elapsed : ℕ) → 1 ≤ avg
    → (min avg bw ≤ average_after avg old bw elapsed) × (average_after avg old bw elapsed ≤ max avg bw)

-- ---- the rate limit

-- the new rate limit never passes the balanced rate: it lies between the old one, of at least 1, and that
abbrev pub RateLimitIsBetween : Type 0
RateLimitIsBetween = (old : Estimate) (sample : Sample) → 1 ≤ old.ratelimit
    → (min old.ratelimit (balanced_next old sample) ≤ ratelimit_next old sample)
    × (ratelimit_next old sample ≤ max old.ratelimit (balanced_next old sample))

-- below the setpoint it doesn't fall, nor rise past the least of the balanced rate, the balanced rate before and the rate
-- of the writers
abbrev pub RateLimitRises : Type 0
RateLimitRises = (old : Estimate) (sample : Sample) → 1 ≤ old.ratelimit → sample.below_setpoint ≡ true
    → let least : ℕ = least_rate old.balanced (balanced_next old sample) (task_rate old.ratelimit sample.ratio) in
    (old.ratelimit ≤ ratelimit_next old sample) × (ratelimit_next old sample ≤ max old.ratelimit least)

-- elsewhere it doesn't rise, nor fall past the greatest of the three
abbrev pub RateLimitFalls : Type 0
RateLimitFalls = (old : Estimate) (sample : Sample) → 1 ≤ old.ratelimit → sample.below_setpoint ≡ false
    → let greatest : ℕ = greatest_rate old.balanced (balanced_next old sample) (task_rate old.ratelimit sample.ratio) in
    (min old.ratelimit greatest ≤ ratelimit_next old sample) × (ratelimit_next old sample ≤ old.ratelimit)

-- of a whole step at most an eighth is taken, rounded up
abbrev pub StepIsAnEighth : Type 0
StepIsAnEighth = (ratelimit step : ℕ) → damped_step ratelimit step ≤ div_ceil step 8
