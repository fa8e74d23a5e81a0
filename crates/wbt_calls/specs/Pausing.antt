-- Of which numbers a pause is answered, and the statuses of others.
use Rattle.std.specs.Prelude.{ℕ, ◌^◌, ◌<◌, ◌≤◌, ◌||◌, if◌then◌else◌, ◌==◌, nat_lt}
use Rattle.wbt_calls.specs.declared.ranges.TheConstants.{MOST_DIRTY}
use Rattle.wbt_calls.specs.declared.status.TheConstants.{OK, BAD_CONTEXT, BAD_ESTIMATE}

-- of the longest pause
abbrev pub status_of_longest : (wb_dirty : ℕ) → ℕ
status_of_longest wb_dirty = if nat_lt MOST_DIRTY wb_dirty then BAD_CONTEXT else OK

-- and of the least one, which divides by two rates
abbrev pub status_of_least : (wb_dirty avg ratelimit : ℕ) → ℕ
status_of_least wb_dirty avg ratelimit =
    if nat_lt MOST_DIRTY wb_dirty then BAD_CONTEXT
    else if avg == 0 || ratelimit == 0 then BAD_ESTIMATE
    else OK

-- what the least one requires
pub record IsLeastTaken (wb_dirty avg ratelimit : ℕ) : Type 0 where
  pub pages : wb_dirty < 2 ^ 33
  pub average : 1 ≤ avg
  pub writers : 1 ≤ ratelimit
