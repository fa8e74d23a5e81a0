-- What a source tells of the bytes that are left, and a sink of the bytes that it holds. `None` tells nothing.
use Rattle.std.specs.Prelude.{◌≡◌, ℕ, ◌<◌, ◌≤◌, List, length, take, Option}
use Rattle.std.specs.Io.KnownBytes.{prepend_known, append_known}

-- so many bytes were taken from the front of those that were left, and no others
abbrev pub Loses : (count : ℕ) (before now : Option (List ℕ)) → Type 0
Loses count before now = (front : List ℕ) × (before ≡ prepend_known front now) × (length front ≡ count)

-- at most so many bytes were taken from the front of those that were left, and no others
abbrev pub LosesAtMost : (most : ℕ) (before now : Option (List ℕ)) → Type 0
LosesAtMost most before now = (count : ℕ) × Loses count before now × (count ≤ most)

-- a part of these bytes, from the first on and without the last, was added at the end of those that were held
abbrev pub GainsPart : (before now : Option (List ℕ)) (bytes : List ℕ) → Type 0
GainsPart before now bytes = (count : ℕ) × (count < length bytes) × (now ≡ append_known before (take count bytes))
