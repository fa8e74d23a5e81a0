-- When a writer may be granted pages. A decision and a grant both cite this.
use Rattle.std.specs.Prelude.{ℕ, Bool, false, nat_le, ◌||◌, Option, Some, None}

-- a reading was loaded, and is at most so many pages
abbrev pub fits : (most : ℕ) (reading : Option ℕ) → Bool
fits most None = false
fits most (Some pages) = nat_le pages most

-- a reading of a domain is at most the hard limit that was loaded before it
abbrev pub fits_hard : (hard reading : Option ℕ) → Bool
fits_hard None reading = false
fits_hard (Some most) reading = fits most reading

-- A writer is let through in a domain where the domain's reading is at most its hard limit, or where the context's reading
-- is so small that it may be all error. It may be granted pages where each of its domains lets it through.
abbrev pub lets_through : (error : ℕ) (hard reading context_reading : Option ℕ) → Bool
lets_through error hard reading context_reading = fits_hard hard reading || fits error context_reading
