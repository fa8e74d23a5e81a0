-- Of which numbers the parts of a cgroup and of a context are answered, and the statuses of others.
use Rattle.std.specs.Prelude.{ℕ, ◌^◌, ◌<◌, ◌≤◌, Bool, ◌||◌, if◌then◌else◌, nat_lt}
use Rattle.wbt_num.specs.declared.limits.TheConstants.{MAX_LIMIT}
use Rattle.wbt_calls.specs.Ranges.{is_out}
use Rattle.wbt_calls.specs.declared.limits.TheConstants.{MOST_PERCENT}
use Rattle.wbt_calls.specs.declared.parts.TheConstants.{MOST_DEN, MOST_FILE_PAGES}
use Rattle.wbt_calls.specs.declared.status.TheConstants.{OK, BAD_FRACTION, BAD_LIMIT, BAD_PAGES, BAD_SHARES}
use Rattle.wbt_calls.specs.declared.types.Share.{Share}

-- of a cgroup's available pages, and what they require
abbrev pub status_of_cgroup : (filepages headroom : ℕ) → ℕ
status_of_cgroup filepages headroom = if nat_lt MOST_FILE_PAGES filepages || nat_lt MOST_FILE_PAGES headroom then BAD_PAGES else OK

-- a cgroup's file pages and headroom are in range, which is up to 2^40 pages
abbrev pub IsCgroupTaken : (filepages headroom : ℕ) → Type 0
IsCgroupTaken filepages headroom = (filepages ≤ 2 ^ 40) × (headroom ≤ 2 ^ 40)

-- whether a share has no fraction of completed writes, at most 1, with a denominator in range
abbrev pub is_no_fraction : (share : Share) → Bool
is_no_fraction share = is_out share.den MOST_DEN || nat_lt share.den share.num

-- whether its shares of devices are no percentages, or the least is above the greatest
abbrev pub are_bad_shares : (share : Share) → Bool
are_bad_shares share = nat_lt MOST_PERCENT share.sum_min || nat_lt share.max share.min || nat_lt MOST_PERCENT share.max

-- of a context's threshold
abbrev pub status_of_threshold : (thresh : ℕ) (share : Share) → ℕ
status_of_threshold thresh share =
    if nat_lt MAX_LIMIT thresh then BAD_LIMIT
    else if is_no_fraction share then BAD_FRACTION
    else if are_bad_shares share then BAD_SHARES
    else OK

-- a fraction, shares, and what a context's threshold requires
pub record IsFraction (share : Share) : Type 0 where
  pub part : share.num ≤ share.den
  pub some : 1 ≤ share.den
  pub den : share.den < 2 ^ 41

-- the shares of devices are percentages, and the least is at most the greatest
pub record AreShares (share : Share) : Type 0 where
  pub sum_min : share.sum_min ≤ 100
  pub min : share.min ≤ share.max
  pub max : share.max ≤ 100

-- a context's threshold is answered: the domain's limit, the fraction and the shares are in range
pub record IsThresholdTaken (thresh : ℕ) (share : Share) : Type 0 where
  pub limit : thresh ≤ MAX_LIMIT
  pub fraction : IsFraction share
  pub shares : AreShares share

-- of its background threshold, and what that requires
abbrev pub status_of_background : (context_thresh bg : ℕ) → ℕ
status_of_background context_thresh bg = if nat_lt MAX_LIMIT context_thresh || nat_lt MAX_LIMIT bg then BAD_LIMIT else OK

-- a context's background threshold is answered: its threshold and the domain's background threshold are in range
abbrev pub IsBackgroundTaken : (context_thresh bg : ℕ) → Type 0
IsBackgroundTaken context_thresh bg = (context_thresh ≤ MAX_LIMIT) × (bg ≤ MAX_LIMIT)
