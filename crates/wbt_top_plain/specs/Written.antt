-- What became of a text that was to be written.
use Rattle.std.specs.Prelude.{◌≡◌, ◌⊎◌, ℕ, List, Option}
use Rattle.std.specs.Io.KnownBytes.{append_known}
use Rattle.wbt_io.specs.Told.{GainsPart}

-- all of a text was written
abbrev pub IsWritten : (before now : Option (List ℕ)) (bytes : List ℕ) → Type 0
IsWritten before now bytes = now ≡ append_known before bytes

-- all of it, or a part where the sink has failed
abbrev pub IsWrittenUnless : (failed : Type 0) (before now : Option (List ℕ)) (bytes : List ℕ) → Type 0
IsWrittenUnless failed before now bytes = (now ≡ append_known before bytes) ⊎ (failed × GainsPart before now bytes)
