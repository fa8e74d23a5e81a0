-- Laws of the definitions, for the layers above: thresholds are lawful, never fall where pages are added, and the word of
-- lawful limits holds them.
use Rattle.std.proofs.Common.{◌≡◌, ℕ, ◌+◌, ◌-◌, ◌*◌, ◌/◌, ◌^◌, ◌<◌, ◌≤◌, ◌⊎◌, Option, Some, None, true, false, ◌==◌, if◌then◌else◌, min, mul-le-mul_left, arith}
use Rattle.std.proofs.lemmas.Bool.Decides.{nat_tests}
use Rattle.std.proofs.lemmas.Grind.{common_steps}
use Rattle.std.specs.Int.{div_ceil}
use Rattle.wbt_num.specs.declared.limits.Limits.{Limits}
use Rattle.wbt_num.specs.declared.limits.Settings.{Settings}
use Rattle.wbt_num.specs.declared.limits.TheConstants.{MAX_LIMIT}
use Rattle.wbt_num.specs.Limits.{IsLawful}
use Rattle.wbt_limits.specs.Laws.{BackgroundFallsToHalf, BackgroundNeverFalls, CgroupAvailNeverRises, CgroupThreshIsBetween, FollowingFallsSlowly, FollowingIsHard, FollowingRisesAtOnce, FollowingStaysInRange, LimitsAreLawful, ThreshNeverFalls}
use Rattle.wbt_limits.specs.Thresholds.{ratio_of, global_threshold, cgroup_ratio, threshold, background_below, thresholds_of, followed_limit, hard_limit}
use Rattle.wbt_limits.specs.Words.{thresh_word_of, sequence_word_of, sequence_in, limits_in}

-- ---- one threshold

pub threshold_in_range : (percent bytes avail : ℕ) (global_avail : Option ℕ) → threshold percent bytes avail global_avail ≤ MAX_LIMIT
unfolding threshold
threshold_in_range percent bytes avail None = omega arith
threshold_in_range percent bytes avail (Some global_avail) = omega arith

part_rises : (ratio a b : ℕ) → a ≤ b → ratio * a / 4096 ≤ ratio * b / 4096
part_rises ratio a b h = omega (arith, mul-le-mul_left ratio h)

pub threshold_rises :
    (percent bytes a b : ℕ) (global_avail : Option ℕ)
    → a ≤ b → threshold percent bytes a global_avail ≤ threshold percent bytes b global_avail
unfolding threshold global_threshold
threshold_rises percent bytes a b None h =
    elim (bytes == 0) as
    (λ unset. min (if unset then ratio_of percent * a / 4096 else div_ceil bytes 4096) MAX_LIMIT
    ≤ min (if unset then ratio_of percent * b / 4096 else div_ceil bytes 4096) MAX_LIMIT)
    [ true ↦ omega (arith, part_rises (ratio_of percent) a b h) | false ↦ omega arith ]
threshold_rises percent bytes a b (Some global_avail) h =
    omega (arith, part_rises (cgroup_ratio percent bytes global_avail) a b h)

-- ---- the pair

pub background_below_thresh : (thresh bg : ℕ) → background_below thresh bg ≤ thresh
unfolding background_below
background_below_thresh thresh bg = grind (arith, nat_tests)

-- with any hard limit from the threshold to the greatest limit
pub thresholds_lawful :
    (avail : ℕ) (settings : Settings) (global_avail : Option ℕ) (hard : ℕ)
    → (thresholds_of avail settings global_avail).thresh ≤ hard → hard ≤ MAX_LIMIT
    → IsLawful (record {
      thresh = (thresholds_of avail settings global_avail).thresh;
      bg = (thresholds_of avail settings global_avail).bg;
      hard = hard;
    })
unfolding thresholds_of
thresholds_lawful avail settings global_avail hard above in_range = record {
  bg_below_thresh = background_below_thresh _ _;
  thresh_below_hard = above;
  hard_in_range = in_range;
}

pub thresh_rises :
    (a b : ℕ) (settings : Settings) (global_avail : Option ℕ)
    → a ≤ b → (thresholds_of a settings global_avail).thresh ≤ (thresholds_of b settings global_avail).thresh
unfolding thresholds_of
thresh_rises a b settings global_avail h = threshold_rises settings.ratio settings.bytes a b global_avail h

pub thresh_never_falls : ThreshNeverFalls
thresh_never_falls avail more settings global_avail h = thresh_rises avail more settings global_avail h

pub cgroup_avail_never_rises : CgroupAvailNeverRises
cgroup_avail_never_rises filepages headroom dirty gavail gdirty more h = omega arith

pub cgroup_thresh_is_between : CgroupThreshIsBetween
cgroup_thresh_is_between filepages headroom dirty gavail gdirty settings global_avail =
    (thresh_rises _ _ settings global_avail (omega arith), thresh_rises _ _ settings global_avail (omega arith))

-- what is asked for the background rises too; what becomes of it depends on whether it reaches the threshold
background_stays : (thresh more_thresh bg more_bg : ℕ) → thresh ≤ more_thresh → bg ≤ more_bg → (thresh ≤ bg) ⊎ (more_bg < more_thresh)
    → background_below thresh bg ≤ background_below more_thresh more_bg
unfolding background_below
background_stays thresh more_thresh bg more_bg h g cut = grind (arith, nat_tests)

background_halves : (thresh more_thresh bg more_bg : ℕ) → thresh ≤ more_thresh → bg ≤ more_bg
    → min (background_below thresh bg) (thresh / 2) ≤ background_below more_thresh more_bg
unfolding background_below
background_halves thresh more_thresh bg more_bg h g = grind (arith, nat_tests)

pub background_never_falls : BackgroundNeverFalls
unfolding thresholds_of
background_never_falls avail more settings global_avail h cut =
    background_stays _ _ _ _ (threshold_rises settings.ratio settings.bytes avail more global_avail h)
    (threshold_rises settings.bg_ratio settings.bg_bytes avail more global_avail h) cut

pub background_falls_to_half : BackgroundFallsToHalf
unfolding thresholds_of
background_falls_to_half avail more settings global_avail h =
    background_halves _ _ _ _ (threshold_rises settings.ratio settings.bytes avail more global_avail h)
    (threshold_rises settings.bg_ratio settings.bg_bytes avail more global_avail h)

pub limits_are_lawful : LimitsAreLawful
unfolding thresholds_of
limits_are_lawful avail settings global_avail following h =
    let in_range : (thresholds_of avail settings global_avail).thresh ≤ MAX_LIMIT = threshold_in_range settings.ratio settings.bytes avail global_avail in
    thresholds_lawful avail settings global_avail (hard_limit (thresholds_of avail settings global_avail).thresh following)
    (omega arith) (omega arith)

-- ---- the limit that follows

pub followed_limit_reaches : (limit thresh dirty : ℕ) → thresh ≤ followed_limit limit thresh dirty
followed_limit_reaches limit thresh dirty = grind (arith, nat_tests)

pub followed_limit_in_range : (limit thresh dirty most : ℕ) → thresh ≤ most → limit ≤ most → followed_limit limit thresh dirty ≤ most
followed_limit_in_range limit thresh dirty most h g = grind (arith, nat_tests)

-- from the threshold or above it falls, by at most a 32nd of what it is above
pub followed_limit_falls : (limit thresh dirty : ℕ) → thresh ≤ limit → followed_limit limit thresh dirty ≤ limit
followed_limit_falls limit thresh dirty h = grind (arith, nat_tests)

pub followed_limit_falls_slowly :
    (limit thresh dirty : ℕ) → thresh ≤ limit → limit ≤ followed_limit limit thresh dirty + (limit - thresh) / 2 ^ 5
followed_limit_falls_slowly limit thresh dirty h = grind (arith, nat_tests)

pub following_is_hard : FollowingIsHard
following_is_hard limit thresh dirty =
    let reaches : thresh ≤ followed_limit limit thresh dirty = followed_limit_reaches limit thresh dirty in
    (reaches, omega arith)

pub following_stays_in_range : FollowingStaysInRange
following_stays_in_range limit thresh dirty h g = followed_limit_in_range limit thresh dirty MAX_LIMIT h g

pub following_rises_at_once : FollowingRisesAtOnce
following_rises_at_once limit thresh dirty h = grind (arith, nat_tests)

pub following_falls_slowly : FollowingFallsSlowly
following_falls_slowly limit thresh dirty h = (followed_limit_falls limit thresh dirty h, followed_limit_falls_slowly limit thresh dirty h)

-- ---- the words

pub sequence_in-word : (sequence hard : ℕ) → hard ≤ MAX_LIMIT → sequence_in (sequence_word_of sequence hard) ≡ sequence
sequence_in-word sequence hard fits = grind (arith, common_steps)

pub limits_in-words : (sequence : ℕ) (limits : Limits) → IsLawful limits → limits_in (sequence_word_of sequence limits.hard) (thresh_word_of limits) ≡ limits
limits_in-words sequence limits lawful = grind (arith, common_steps)
