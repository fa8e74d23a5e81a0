-- What disks and racks tell of the pages that were written. `None` tells nothing.
use Rattle.std.specs.Prelude.{◌≡◌, ℕ, ◌+◌, ◌^◌, nat_lt, if◌then◌else◌, Option, Some, None, IfSome}

-- a number of pages, which is told while it is below 2^63
abbrev pub told_below : (pages : ℕ) → Option ℕ
told_below pages = if nat_lt pages (2 ^ 63) then Some pages else None

-- A number of pages grew by another one. Where it is told now it was told before, and so was the other one.
abbrev pub Grows : (by before now : Option ℕ) → Type 0
Grows by before now = IfSome now (λ total. (more earlier : ℕ) × (by ≡ Some more) × (before ≡ Some earlier) × (total ≡ earlier + more))
