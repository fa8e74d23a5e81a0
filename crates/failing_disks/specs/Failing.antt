-- Which writes of a disk fail.
use Rattle.std.specs.Prelude.{ℕ, List}
use Rattle.std.specs.List.{range_with_len}

-- the numbers of so many writes, the first ones, counted from 1
abbrev pub first_writes : (count : ℕ) → List ℕ
first_writes count = range_with_len 1 count
