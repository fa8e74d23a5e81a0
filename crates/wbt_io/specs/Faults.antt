-- Counts of faults. One is kept in 64 bits and never falls.
use Rattle.std.specs.Prelude.{ℕ, ◌+◌, ◌-◌, ◌^◌, ◌≤◌, min}

-- the last value of a count, at which it stays
abbrev pub last_count : ℕ
last_count = 2 ^ 64 - 1

-- a count after so many more
abbrev pub more : (by count : ℕ) → ℕ
more by count = min (count + by) last_count

-- a count after one more
abbrev pub one_more : (count : ℕ) → ℕ
one_more count = more 1 count

-- The count has risen by so many at least between two moments. At its last value it stays, and is taken as risen.
abbrev pub HasRisenBy : (by before now : ℕ) → Type 0
HasRisenBy by before now = more by before ≤ now

-- The count has risen between two moments. At its last value it stays, and is taken as risen.
abbrev pub HasRisen : (before now : ℕ) → Type 0
HasRisen before now = one_more before ≤ now
