-- Moments, in ticks: what a clock's answer tells, and when a disk is done.
use Rattle.std.specs.Prelude.{ℕ, ◌+◌, ◌-◌, ◌*◌, ◌^◌, min}
use Rattle.std.specs.Int.{div_ceil}

-- the last moment that a clock can tell
abbrev pub last_moment : ℕ
last_moment = 2 ^ 62 - 1

-- the moment that a clock's answer tells: a greater answer tells the last moment
abbrev pub moment_of : (answer : ℕ) → ℕ
moment_of answer = min answer last_moment

-- the last moment at which a disk says that it is done
abbrev pub last_done : ℕ
last_done = 2 ^ 63

-- when a disk of this rate, in pages a second, that begins at `start` has written so many pages
abbrev pub done_at : (start pages rate : ℕ) → ℕ
done_at start pages rate = min (start + div_ceil (pages * 1000) rate) last_done
