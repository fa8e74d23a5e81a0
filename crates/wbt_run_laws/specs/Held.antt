-- What checks tell of limits: those that their CPU held then.
use Rattle.std.specs.Prelude.{◌≡◌, ℕ, None, List, [], ◌∷◌, ◌++◌, map, flat_map, ◌⊎◌, Contains}
use Rattle.wbt_num.specs.declared.limits.Limits.{Limits}
use Rattle.wbt_grant.specs.Rule.{NeverBack}
use Rattle.wbt_grant.specs.State.{newest_of}
use Rattle.wbt_grant.specs.declared.record.DomainLimits.{DomainLimits}
use Rattle.wbt_journal.specs.Counts.{reads_of}
use Rattle.wbt_journal.specs.Each.{Each}
use Rattle.wbt_journal.specs.Effects.{effect}
use Rattle.wbt_journal.specs.Laws.{OfPart}
use Rattle.wbt_journal.specs.Reads.{reads_in, TriplesGoOn, triples_after}
use Rattle.wbt_journal.specs.Told.{Told, checked}
use Rattle.wbt_journal.specs.declared.entry.CheckEntry.{CheckEntry}
use Rattle.wbt_journal.specs.declared.entry.DomainLine.{DomainLine}
use Rattle.wbt_run_laws.specs.Notes.{Longer}

-- the limits of a domain that a check read, with their version
abbrev pub limits_of : (read : DomainLine) → DomainLimits
limits_of read = record { domain = read.domain; version = read.triple; limits = read.limits }

-- what checks read of limits
abbrev pub limits_in : (entry : Told) → List DomainLimits
limits_in entry = map limits_of (reads_in entry)

-- with these loaded a CPU holds these limits of their domain: the newest that were loaded, or the first ones, of version 0
abbrev pub IsHeld : (firsts : ℕ → Limits) (triples : List DomainLimits) (t : DomainLimits) → Type 0
IsHeld firsts triples t = newest_of t.domain (firsts t.domain) triples ≡ t

-- these were held in this order, one after another, while what was loaded got more at its front
abbrev pub WereHeld : (firsts : ℕ → Limits) (told old new : List DomainLimits) → Type 0
WereHeld firsts [] old new = Longer old new
WereHeld firsts (t ∷ told) old new = (mid : List DomainLimits) × Longer old mid × IsHeld firsts mid t × WereHeld firsts told mid new

-- ---- laws

-- what is held at last may be told
abbrev pub HeldOne : Type 0
HeldOne = (firsts : ℕ → Limits) (t : DomainLimits) (old new : List DomainLimits) → Longer old new → IsHeld firsts new t
    → WereHeld firsts (t ∷ []) old new

-- and one after another
abbrev pub HeldMore : Type 0
HeldMore = (firsts : ℕ → Limits) (a b old mid new : List DomainLimits) → WereHeld firsts a old mid → WereHeld firsts b mid new
    → WereHeld firsts (a ++ b) old new

-- a check tells what was held
abbrev pub CheckTellsHeld : Type 0
CheckTellsHeld = (firsts : ℕ → Limits) (check : CheckEntry) (old new : List DomainLimits)
    → WereHeld firsts (map limits_of (reads_of check)) old new → WereHeld firsts (flat_map limits_in (checked check ∷ [])) old new

-- and other entries tell nothing of it
abbrev pub OthersTellNone : Type 0
OthersTellNone = (firsts : ℕ → Limits) (added : List Told) (old new : List DomainLimits) → Each (λ (entry : Told). (effect entry).check ≡ None) added
    → Longer old new → WereHeld firsts (flat_map limits_in added) old new

-- limits that were loaded, or the first ones of their domain
abbrev pub IsLoaded : (firsts : ℕ → Limits) (triples : List DomainLimits) (t : DomainLimits) → Type 0
IsLoaded firsts triples t = (t ≡ record { domain = t.domain; version = 0; limits = firsts t.domain }) ⊎ Contains triples t

-- what was held is one of these
abbrev pub HeldWereLoaded : Type 0
HeldWereLoaded = (firsts : ℕ → Limits) (told old new : List DomainLimits) → WereHeld firsts told old new → Each (IsLoaded firsts new) told

-- where no load went back to an older version, no check of the part does
abbrev pub HeldStayNew : Type 0
HeldStayNew = (firsts : ℕ → Limits) (added : List Told) (triples : List DomainLimits) → NeverBack triples
    → WereHeld firsts (flat_map limits_in added) [] triples → (cpu : ℕ) → OfPart TriplesGoOn triples_after [] cpu added
