-- The laws at numbers that were worked out by hand.
use Rattle.std.proofs.Common.{◌≡◌, ℕ, Some, None, refl}
use Rattle.wbt_num.specs.declared.limits.Limits.{Limits}
use Rattle.wbt_num.specs.declared.limits.Settings.{Settings}
use Rattle.wbt_limits.specs.declared.domain.Pair.{Pair}
use Rattle.wbt_limits.specs.Thresholds.{global_threshold, threshold, background_below, thresholds_of, followed_limit, ratelimit_pages_of}
use Rattle.wbt_limits.specs.Limits.{freerun, setpoint}
use Rattle.wbt_limits.specs.Cgroup.{available_to_cgroup}
use Rattle.wbt_limits.specs.Context.{context_threshold, context_background}
use Rattle.wbt_limits.specs.Flusher.{chunk_of}

abbrev settings : (ratio bg_ratio bytes bg_bytes : ℕ) → Settings
settings ratio bg_ratio bytes bg_bytes = record {
  ratio = ratio;
  bg_ratio = bg_ratio;
  bytes = bytes;
  bg_bytes = bg_bytes;
}

abbrev pair : (thresh bg : ℕ) → Pair
pair thresh bg = record { thresh = thresh; bg = bg }

abbrev limits : (thresh bg hard : ℕ) → Limits
limits thresh bg hard = record { thresh = thresh; bg = bg; hard = hard }

-- ---- 100000 available pages

pub by_default : thresholds_of 100000 (settings 20 10 0 0) None ≡ pair 19995 9985
unfolding thresholds_of background_below threshold global_threshold
by_default = refl

pub free_up_to : freerun (limits 19995 9985 19995) ≡ 14990
free_up_to = refl

pub held_at : setpoint (limits 19995 9985 19995) ≡ 17492
held_at = refl

-- a background ratio that asks for 29980 pages, more than the threshold, gives half of it
pub background_above : thresholds_of 100000 (settings 20 30 0 0) None ≡ pair 19995 9997
unfolding thresholds_of background_below threshold global_threshold
background_above = refl

-- two pages and one byte are three pages, and a background threshold far above is half of that
pub by_bytes : thresholds_of 100000 (settings 20 10 8193 0) None ≡ pair 3 1
unfolding thresholds_of background_below threshold global_threshold
by_bytes = refl

pub free_up_to_two : freerun (limits 3 1 3) ≡ 2
free_up_to_two = refl

pub without_pages : thresholds_of 0 (settings 20 10 0 0) None ≡ pair 0 0
unfolding thresholds_of background_below threshold global_threshold
without_pages = refl

pub cut : thresholds_of 1099511627776 (settings 100 50 0 0) None ≡ pair 4294967295 2147483647
unfolding thresholds_of background_below threshold global_threshold
cut = refl

-- one page more, and what is asked for the background reaches the threshold, and is halved
pub background_below_it : thresholds_of 21 (settings 20 19 0 0) None ≡ pair 4 3
unfolding thresholds_of background_below threshold global_threshold
background_below_it = refl

pub background_falls : thresholds_of 22 (settings 20 19 0 0) None ≡ pair 4 2
unfolding thresholds_of background_below threshold global_threshold
background_falls = refl

-- ---- cgroups

pub clean_pages_elsewhere : available_to_cgroup 50000 30000 1000 100000 5000 ≡ 80000
clean_pages_elsewhere = refl

pub of_a_cgroup : thresholds_of 80000 (settings 20 10 0 0) (Some 100000) ≡ pair 15996 7988
unfolding thresholds_of background_below threshold
of_a_cgroup = refl

-- 40960 bytes are less than a 4096th of 100000 pages, rounded up to one; of no page bytes are the whole
pub bytes_as_a_part : thresholds_of 80000 (settings 20 10 40960 0) (Some 100000) ≡ pair 19 9
unfolding thresholds_of background_below threshold
bytes_as_a_part = refl

pub bytes_of_nothing : thresholds_of 80000 (settings 20 10 4096 0) (Some 0) ≡ pair 80000 7988
unfolding thresholds_of background_below threshold
bytes_of_nothing = refl

-- ---- contexts

pub a_quarter : context_threshold 19995 1 4 0 0 100 ≡ 4998
a_quarter = refl

-- 17995 pages are shared, a quarter is 4498, with the device's least share 5497, and its greatest share is 3999
pub cut_to_the_greatest_share : context_threshold 19995 1 4 10 5 20 ≡ 3999
cut_to_the_greatest_share = refl

pub background_in_proportion : context_background 4998 9985 19995 ≡ 2495
background_in_proportion = refl

-- ---- following limit, checks, chunks

pub falls_towards_the_dirty_pages : followed_limit 20000 10000 15000 ≡ 19844
falls_towards_the_dirty_pages = refl

pub rises_at_once : followed_limit 5000 10000 0 ≡ 10000
rises_at_once = refl

pub stays_between : followed_limit 12000 10000 15000 ≡ 12000
stays_between = refl

pub checks_of_four_cpus : ratelimit_pages_of 19995 4 ≡ 156
checks_of_four_cpus = refl

pub at_least_sixteen : ratelimit_pages_of 3 1 ≡ 16
at_least_sixteen = refl

pub an_eighth_of_the_limit : chunk_of 25600 19995 ≡ 3072
an_eighth_of_the_limit = refl
