-- What holds of thresholds for any settings, and of the hard limit above them.
use Rattle.std.specs.Prelude.{ℕ, ◌≡◌, ◌+◌, ◌-◌, ◌/◌, ◌^◌, ◌<◌, ◌≤◌, ◌⊎◌, min, Option}
use Rattle.wbt_num.specs.declared.limits.Settings.{Settings}
use Rattle.wbt_num.specs.declared.limits.TheConstants.{MAX_LIMIT}
use Rattle.wbt_num.specs.Limits.{IsLawful}
use Rattle.wbt_limits.specs.Cgroup.{available_to_cgroup}
use Rattle.wbt_limits.specs.Thresholds.{background_asked, followed_limit, hard_limit, limits_under, thresholds_of}

-- A threshold never falls where more pages are available, in the global domain and in a cgroup's. Of a cgroup these are
-- its own pages: where bytes are set, more pages of the whole machine make its threshold smaller.
abbrev pub ThreshNeverFalls : Type 0
ThreshNeverFalls = (avail more : ℕ) (settings : Settings) (global_avail : Option ℕ) → avail ≤ more
    → (thresholds_of avail settings global_avail).thresh ≤ (thresholds_of more settings global_avail).thresh

-- A cgroup's available pages never rise with the dirty pages of the whole machine, of which fewer clean ones may still be
-- charged to it.
abbrev pub CgroupAvailNeverRises : Type 0
CgroupAvailNeverRises = (filepages headroom dirty gavail gdirty more : ℕ) → gdirty ≤ more
    → available_to_cgroup filepages headroom dirty gavail more ≤ available_to_cgroup filepages headroom dirty gavail gdirty

-- so a cgroup's threshold lies between those of its file pages alone and of all that may be charged to it
abbrev pub CgroupThreshIsBetween : Type 0
CgroupThreshIsBetween = (filepages headroom dirty gavail gdirty : ℕ) (settings : Settings) (global_avail : Option ℕ)
    → let avail : ℕ = available_to_cgroup filepages headroom dirty gavail gdirty in
    ((thresholds_of filepages settings global_avail).thresh ≤ (thresholds_of avail settings global_avail).thresh)
    × ((thresholds_of avail settings global_avail).thresh ≤ (thresholds_of (filepages + headroom) settings global_avail).thresh)

-- A background threshold may fall: at 20 and 19 percent it is 3 of 21 pages, and 2 of 22, where what is asked for it has
-- reached the threshold. It doesn't fall where that was so before, nor where it isn't so after.
abbrev pub BackgroundNeverFalls : Type 0
BackgroundNeverFalls = (avail more : ℕ) (settings : Settings) (global_avail : Option ℕ) → avail ≤ more
    → ((thresholds_of avail settings global_avail).thresh ≤ background_asked avail settings global_avail)
    ⊎ (background_asked more settings global_avail < (thresholds_of more settings global_avail).thresh)
    → (thresholds_of avail settings global_avail).bg ≤ (thresholds_of more settings global_avail).bg

-- and where it falls, not below half of what the threshold was
abbrev pub BackgroundFallsToHalf : Type 0
BackgroundFallsToHalf = (avail more : ℕ) (settings : Settings) (global_avail : Option ℕ) → avail ≤ more
    → min (thresholds_of avail settings global_avail).bg ((thresholds_of avail settings global_avail).thresh / 2)
    ≤ (thresholds_of more settings global_avail).bg

-- under any following limit that is in range the limits of a domain are lawful
abbrev pub LimitsAreLawful : Type 0
LimitsAreLawful = (avail : ℕ) (settings : Settings) (global_avail : Option ℕ) (following : ℕ) → following ≤ MAX_LIMIT
    → IsLawful (limits_under (thresholds_of avail settings global_avail) following)

-- a limit that follows a threshold is never below it, so that it is the hard limit itself
abbrev pub FollowingIsHard : Type 0
FollowingIsHard = (limit thresh dirty : ℕ) → (thresh ≤ followed_limit limit thresh dirty)
    × (hard_limit thresh (followed_limit limit thresh dirty) ≡ followed_limit limit thresh dirty)

-- it stays in range
abbrev pub FollowingStaysInRange : Type 0
FollowingStaysInRange = (limit thresh dirty : ℕ) → thresh ≤ MAX_LIMIT → limit ≤ MAX_LIMIT
    → followed_limit limit thresh dirty ≤ MAX_LIMIT

-- from below it is at the threshold at once
abbrev pub FollowingRisesAtOnce : Type 0
FollowingRisesAtOnce = (limit thresh dirty : ℕ) → limit < thresh → followed_limit limit thresh dirty ≡ thresh

-- and from above it falls by at most a 32nd of the way
abbrev pub FollowingFallsSlowly : Type 0
FollowingFallsSlowly = (limit thresh dirty : ℕ) → thresh ≤ limit → (followed_limit limit thresh dirty ≤ limit)
    × (limit ≤ followed_limit limit thresh dirty + (limit - thresh) / 2 ^ 5)
