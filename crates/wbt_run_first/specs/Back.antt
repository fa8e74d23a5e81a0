-- Disks that are given back to their rack.
use Rattle.std.specs.Prelude.{◌≡◌, ℕ, ◌≤◌, min, Option, IfSome}
use Rattle.wbt_io.specs.Faults.{HasRisenBy, last_count}
use Rattle.wbt_io.specs.Pages.{Grows}

-- where a number is told, it is nothing
abbrev pub IsNothing : (count : Option ℕ) → Type 0
IsNothing count = IfSome count (λ n. n ≡ 0)

-- a count of faults didn't fall, as far as counts go
pub record NotFallen (before now : ℕ) : Type 0 where
  pub least : min before last_count ≤ now

-- disks were given back that had written so many pages, and the rack's faults rose by as many as they count
pub record WereGiven (by : Option ℕ) (count : ℕ) (pages pages' : Option ℕ) (faults faults' : ℕ) : Type 0 where
  pub written : Grows by pages pages'
  pub risen : HasRisenBy count faults faults'
