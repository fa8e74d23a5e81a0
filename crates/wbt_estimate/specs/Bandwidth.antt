-- The bandwidth of a device and its average, in pages a second, from what it wrote in so many ticks.
use Rattle.std.specs.Prelude.{ℕ, ◌+◌, ◌-◌, ◌*◌, ◌/◌, ◌^◌, min, max, ◌&&◌, nat_lt, nat_le, if◌then◌else◌}
use Rattle.wbt_estimate.specs.declared.estimate.TheConstants.{PERIOD}

-- a thousand times the pages written since the stamp
abbrev pub written_since : (written stamp : ℕ) → ℕ
written_since written stamp = (written - min written stamp) * 1000

-- the bandwidth that was measured: pages written a second, rounded down
abbrev pub measured : (written stamp elapsed : ℕ) → ℕ
measured written stamp elapsed = written_since written stamp / elapsed

-- over a `PERIOD` of ticks what was written weighs as much as it took of the period, and the old bandwidth the rest;
-- after more than a period only what was written counts
abbrev pub bandwidth_after : (bw written stamp elapsed : ℕ) → ℕ
bandwidth_after bw written stamp elapsed =
    if nat_lt PERIOD elapsed then measured written stamp elapsed
    else (written_since written stamp + bw * (PERIOD - elapsed)) / PERIOD

-- an average above the old bandwidth falls toward it by an eighth, where the new one isn't above the old
abbrev pub fallen : (avg old bw : ℕ) → ℕ
fallen avg old bw = if nat_lt old avg && nat_le bw old then avg - (avg - old) / 2 ^ 3 else avg

-- an average below the old bandwidth rises toward it by an eighth, where the new one isn't below the old
abbrev pub risen : (avg old bw : ℕ) → ℕ
risen avg old bw = if nat_lt avg old && nat_le old bw then avg + (old - avg) / 2 ^ 3 else avg

-- the average is at least 1; after more than a period it is the new bandwidth
abbrev pub average_after : (avg old bw elapsed : ℕ) → ℕ
average_after avg old bw elapsed = max 1 (if nat_lt PERIOD elapsed then bw else risen (fallen avg old bw) old bw)
