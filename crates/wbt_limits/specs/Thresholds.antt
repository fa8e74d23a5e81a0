-- The thresholds of a domain, in pages, from its available pages and the settings; how a hard limit follows a threshold.
use Rattle.std.specs.Prelude.{ℕ, ◌-◌, ◌*◌, ◌/◌, ◌^◌, min, max, Option, Some, None, ◌==◌, nat_lt, nat_le, if◌then◌else◌}
use Rattle.std.specs.Int.{div_ceil}
use Rattle.wbt_num.specs.declared.limits.Limits.{Limits}
use Rattle.wbt_num.specs.declared.limits.Settings.{Settings}
use Rattle.wbt_num.specs.declared.limits.TheConstants.{MAX_LIMIT}
use Rattle.wbt_limits.specs.declared.domain.Pair.{Pair}
use Rattle.wbt_limits.specs.declared.domain.TheConstants.{PAGE_BYTES, RATIO_ONE, MIN_RATELIMIT_PAGES}

-- a percentage as a ratio: a number of 4096ths, rounded down
abbrev pub ratio_of : (percent : ℕ) → ℕ
ratio_of percent = percent * RATIO_ONE / 100

-- in the global domain: the bytes in whole pages where they are set, else the ratio of the available pages
unfoldable pub global_threshold : (percent bytes avail : ℕ) → ℕ
global_threshold percent bytes avail =
    if bytes == 0 then ratio_of percent * avail / RATIO_ONE else div_ceil bytes PAGE_BYTES

-- in a cgroup's domain bytes that are set replace the ratio by their part of all available pages, at most the whole
abbrev pub cgroup_ratio : (percent bytes global_avail : ℕ) → ℕ
cgroup_ratio percent bytes global_avail =
    if bytes == 0 then ratio_of percent
    else if global_avail == 0 then RATIO_ONE
    else min (div_ceil bytes global_avail) RATIO_ONE

-- and the threshold is that ratio of the cgroup's available pages
abbrev pub cgroup_threshold : (percent bytes avail global_avail : ℕ) → ℕ
cgroup_threshold percent bytes avail global_avail = cgroup_ratio percent bytes global_avail * avail / RATIO_ONE

-- either of the two, cut at the greatest limit; the available pages of the global domain are given for a cgroup's domain
unfoldable pub threshold : (percent bytes avail : ℕ) (global_avail : Option ℕ) → ℕ
threshold percent bytes avail None = min (global_threshold percent bytes avail) MAX_LIMIT
threshold percent bytes avail (Some global_avail) = min (cgroup_threshold percent bytes avail global_avail) MAX_LIMIT

-- a background threshold that is not below the threshold is half of it
unfoldable pub background_below : (thresh bg : ℕ) → ℕ
background_below thresh bg = if nat_le thresh bg then thresh / 2 else bg

-- the background threshold that the settings ask for
abbrev pub background_asked : (avail : ℕ) (settings : Settings) (global_avail : Option ℕ) → ℕ
background_asked avail settings global_avail = threshold settings.bg_ratio settings.bg_bytes avail global_avail

-- the thresholds of a domain
unfoldable pub thresholds_of : (avail : ℕ) (settings : Settings) (global_avail : Option ℕ) → Pair
thresholds_of avail settings global_avail = record {
  thresh = threshold settings.ratio settings.bytes avail global_avail;
  bg = background_below (threshold settings.ratio settings.bytes avail global_avail) (background_asked avail settings global_avail);
}

-- A hard limit below the threshold becomes the threshold. One above the larger of threshold and dirty pages falls by a
-- 32nd of what it is above. Any other stays.
abbrev pub followed_limit : (limit thresh dirty : ℕ) → ℕ
followed_limit limit thresh dirty =
    if nat_lt limit thresh then thresh
    else if nat_lt (max thresh dirty) limit then limit - (limit - max thresh dirty) / 2 ^ 5
    else limit

-- the hard limit: the greater of the threshold and the limit that follows it
abbrev pub hard_limit : (thresh following : ℕ) → ℕ
hard_limit thresh following = max thresh following

-- the limits of a domain with such thresholds
abbrev pub limits_under : (pair : Pair) (following : ℕ) → Limits
limits_under pair following = record { thresh = pair.thresh; bg = pair.bg; hard = hard_limit pair.thresh following }

-- after so many fresh pages of one CPU, whoever's they are, a check is due; from the first global threshold
abbrev pub ratelimit_pages_of : (thresh cpus : ℕ) → ℕ
ratelimit_pages_of thresh cpus = max MIN_RATELIMIT_PAGES (thresh / (32 * cpus))
