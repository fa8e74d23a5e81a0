-- A writeback context's part of its domain's thresholds, in pages.
use Rattle.std.specs.Prelude.{ℕ, zero, suc, ◌+◌, ◌-◌, ◌*◌, ◌/◌, min}

-- so many percent of a threshold, rounded down
abbrev pub percent_of : (thresh percent : ℕ) → ℕ
percent_of thresh percent = thresh * percent / 100

-- Of what the devices' least shares leave, the fraction num / den of completed writes, and the device's own least share;
-- at most its greatest share.
abbrev pub context_threshold : (thresh num den sum_min min_share max_share : ℕ) → ℕ
context_threshold thresh num den sum_min min_share max_share =
    min (percent_of thresh (100 - sum_min) * num / den + percent_of thresh min_share) (percent_of thresh max_share)

-- the background threshold in the same proportion; 0 where the domain's threshold is 0
abbrev pub context_background : (context_thresh bg thresh : ℕ) → ℕ
context_background context_thresh bg zero = 0
context_background context_thresh bg (suc thresh) = context_thresh * bg / suc thresh
