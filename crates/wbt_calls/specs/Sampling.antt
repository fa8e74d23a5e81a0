-- Which estimates and samples are taken, and the statuses of others.
use Rattle.std.specs.Prelude.{ℕ, ◌+◌, ◌≤◌, Bool, ◌||◌, if◌then◌else◌, nat_lt}
use Rattle.wbt_estimate.specs.Estimate.{IsInRange, IsSound, elapsed_since}
use Rattle.wbt_estimate.specs.declared.estimate.TheConstants.{ESTIMATE_AGE}
use Rattle.wbt_calls.specs.Crossing.{estimate_of, sample_of}
use Rattle.wbt_calls.specs.Ranges.{is_out}
use Rattle.wbt_calls.specs.declared.estimate.TheConstants.{MOST_AHEAD, MOST_RATIO, MOST_TOTAL}
use Rattle.wbt_calls.specs.declared.ranges.TheConstants.{MOST_MOMENT, MOST_RATE}
use Rattle.wbt_calls.specs.declared.status.TheConstants.{OK, BAD_ESTIMATE, BAD_NOW, BAD_SAMPLE, TOO_EARLY}
use Rattle.wbt_calls.specs.declared.types.Measured.{Measured}
use Rattle.wbt_calls.specs.declared.types.Rates.{Rates}

-- of the first estimate
abbrev pub status_of_first : (now : ℕ) → ℕ
status_of_first now = if nat_lt MOST_MOMENT now then BAD_NOW else OK

-- whether an estimate isn't sound
abbrev pub is_unsound : (rates : Rates) → Bool
is_unsound rates =
    nat_lt MOST_RATE rates.bw || is_out rates.avg MOST_RATE || is_out rates.ratelimit MOST_RATE || nat_lt MOST_RATE rates.balanced
    || nat_lt MOST_MOMENT rates.at || nat_lt (rates.at + MOST_AHEAD) rates.version

-- whether a number of a sample is out of its range
abbrev pub is_bad : (measured : Measured) → Bool
is_bad measured =
    nat_lt MOST_TOTAL measured.written || nat_lt MOST_TOTAL measured.dirtied || nat_lt MOST_RATIO measured.ratio
    || nat_lt MOST_MOMENT measured.moment || nat_lt 1 measured.below_setpoint

-- of an update
abbrev pub status_of_update : (rates : Rates) (measured : Measured) → ℕ
status_of_update rates measured =
    if is_unsound rates then BAD_ESTIMATE
    else if is_bad measured then BAD_SAMPLE
    else if nat_lt (elapsed_since (estimate_of rates) (sample_of measured)) ESTIMATE_AGE then TOO_EARLY
    else OK

-- a sample in range, with a flag
pub record IsSampleTaken (measured : Measured) : Type 0 where
  pub in_range : IsInRange (sample_of measured)
  pub flag : measured.below_setpoint ≤ 1

-- an update: a sound estimate, such a sample, and the time between them
pub record IsUpdateTaken (rates : Rates) (measured : Measured) : Type 0 where
  pub sound : IsSound (estimate_of rates)
  pub sample : IsSampleTaken measured
  pub late : ESTIMATE_AGE ≤ elapsed_since (estimate_of rates) (sample_of measured)
