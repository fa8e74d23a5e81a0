-- The rate limit of a context's writers, in pages a second, which follows the rate at which dirtying and writing balance.
use Rattle.std.specs.Prelude.{ℕ, ◌+◌, ◌-◌, ◌*◌, ◌/◌, ◌^◌, min, max, bit_or, Bool, nat_lt, if◌then◌else◌}
use Rattle.std.specs.Int.{div_ceil}

-- pages dirtied a second since the stamp
abbrev pub dirty_rate : (dirtied stamp elapsed : ℕ) → ℕ
dirty_rate dirtied stamp elapsed = (dirtied - stamp) * 1000 / elapsed

-- what a writer was let do at a position ratio, and one more
abbrev pub task_rate : (ratelimit ratio : ℕ) → ℕ
task_rate ratelimit ratio = ratelimit * ratio / 2 ^ 10 + 1

-- had writers gone at this rate, as much would have been dirtied as is written; at most the average bandwidth
abbrev pub balanced_rate : (task avg rate : ℕ) → ℕ
balanced_rate task avg rate = min (task * avg / bit_or rate 1) avg

-- the least and the greatest of the balanced rate before, the balanced rate now, and the rate of the writers
abbrev pub least_rate : (balanced_before balanced task : ℕ) → ℕ
least_rate balanced_before balanced task = min (min balanced_before balanced) task

-- the greatest of the same three, in pages a second
abbrev pub greatest_rate : (balanced_before balanced task : ℕ) → ℕ
greatest_rate balanced_before balanced task = max (max balanced_before balanced) task

-- below the setpoint the rate limit may rise to the least of the three rates, else fall to the greatest
abbrev pub whole_step : (below : Bool) (ratelimit balanced_before balanced task : ℕ) → ℕ
whole_step below ratelimit balanced_before balanced task =
    if below then least_rate balanced_before balanced task - ratelimit
    else ratelimit - greatest_rate balanced_before balanced task

-- a small step is made smaller still, by as many halvings as it fits twice into the rate limit; of the rest an eighth is
-- taken, rounded up
abbrev pub damped_step : (ratelimit step : ℕ) → ℕ
damped_step ratelimit step =
    let shift : ℕ = ratelimit / (2 * step + 1) in
    if nat_lt shift 64 then div_ceil (step / 2 ^ shift) 8 else 0

-- the rate limit moves toward the balanced rate, and is at least 1
abbrev pub ratelimit_after : (ratelimit balanced step : ℕ) → ℕ
ratelimit_after ratelimit balanced step =
    max 1 (if nat_lt ratelimit balanced then ratelimit + step else ratelimit - step)
