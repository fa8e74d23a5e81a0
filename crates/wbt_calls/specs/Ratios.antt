-- Of which domains a position ratio is answered, and the statuses of others.
use Rattle.std.specs.Prelude.{ℕ, ◌^◌, ◌<◌, ◌≤◌, if◌then◌else◌, nat_lt}
use Rattle.wbt_num.specs.Limits.{IsLawful}
use Rattle.wbt_calls.specs.Crossing.{limits_in}
use Rattle.wbt_calls.specs.Ranges.{is_unlawful}
use Rattle.wbt_calls.specs.declared.ranges.TheConstants.{MOST_RATE}
use Rattle.wbt_calls.specs.declared.status.TheConstants.{OK, BAD_DOMAIN, BAD_ESTIMATE, BAD_PART}
use Rattle.wbt_calls.specs.declared.types.Domain.{Domain}

-- of a domain and an average bandwidth
abbrev pub status_of_ratio : (domain : Domain) (avg : ℕ) → ℕ
status_of_ratio domain avg =
    if is_unlawful domain then BAD_DOMAIN
    else if nat_lt MOST_RATE avg then BAD_ESTIMATE
    else OK

-- of a domain with its context's part
abbrev pub status_of_strict : (domain : Domain) → ℕ
status_of_strict domain =
    if is_unlawful domain then BAD_DOMAIN
    else if nat_lt domain.thresh domain.wb_thresh then BAD_PART
    else OK

-- what a ratio requires of them
abbrev pub IsRatioTaken : (domain : Domain) (avg : ℕ) → Type 0
IsRatioTaken domain avg = IsLawful (limits_in domain) × (avg < 2 ^ 44)

-- what a strict ratio requires of a domain with its context's part
abbrev pub IsStrictRatioTaken : (domain : Domain) → Type 0
IsStrictRatioTaken domain = IsLawful (limits_in domain) × (domain.wb_thresh ≤ domain.thresh)
