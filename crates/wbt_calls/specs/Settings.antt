-- Which settings are taken, and the status of others.
use Rattle.std.specs.Prelude.{ℕ, ◌≤◌, Bool, ◌||◌, if◌then◌else◌, nat_lt}
use Rattle.wbt_calls.specs.declared.limits.TheConstants.{MOST_BYTES, MOST_PERCENT}
use Rattle.wbt_calls.specs.declared.status.TheConstants.{OK, BAD_SETTINGS}
use Rattle.wbt_calls.specs.declared.types.Knobs.{Knobs}

-- whether a percentage or a number of bytes is too great
abbrev pub are_bad : (knobs : Knobs) → Bool
are_bad knobs =
    nat_lt MOST_PERCENT knobs.ratio || nat_lt MOST_PERCENT knobs.bg_ratio || nat_lt MOST_BYTES knobs.bytes || nat_lt MOST_BYTES knobs.bg_bytes

-- the status of settings: `OK` or `BAD_SETTINGS`
abbrev pub status_of_settings : (knobs : Knobs) → ℕ
status_of_settings knobs = if are_bad knobs then BAD_SETTINGS else OK

-- percentages and numbers of bytes in range
pub record AreTaken (knobs : Knobs) : Type 0 where
  pub ratio : knobs.ratio ≤ MOST_PERCENT
  pub bg_ratio : knobs.bg_ratio ≤ MOST_PERCENT
  pub bytes : knobs.bytes ≤ MOST_BYTES
  pub bg_bytes : knobs.bg_bytes ≤ MOST_BYTES
