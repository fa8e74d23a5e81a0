-- What the calls on shares and on estimates give of a turn's notes.
use Rattle.std.specs.Prelude.{◌≡◌, ℕ, suc, ◌+◌, ◌≤◌, true, ◌==◌, if◌then◌else◌, List, [], ◌∷◌}
use Rattle.wbt_estimate.specs.declared.estimate.Estimate.{Estimate}
use Rattle.wbt_flex.specs.declared.share.Fraction.{Fraction}
use Rattle.wbt_fraction.specs.Laws.{begun}
use Rattle.wbt_fraction.specs.Notes.{added_at}
use Rattle.wbt_fraction.specs.Sums.{total as weigh}
use Rattle.wbt_fraction.specs.Seat.{Seated, Looks, Reads, Adds, Begins}
use Rattle.wbt_fraction.specs.declared.domain.note.Note.{Note}
use Rattle.wbt_fraction.specs.declared.domain.note.Note.TheVariants.{Found, Added, Period}
use Rattle.wbt_published.specs.Known.{note_of, after_read, after_publish}
use Rattle.wbt_published.specs.Publishing.{IsComplete as KnowsAll, IsNewest as IsNewestNote}
use Rattle.wbt_published.specs.declared.known.Known.{Known}
use Rattle.wbt_journal.specs.Estimates.{Follows}
use Rattle.wbt_run_laws.specs.Notes.{Longer, WasRead, IsKept, IsNewest, IsTold}
use Rattle.wbt_run_laws.specs.Ticks.{begun_at_once, AreInOrder}

-- ---- shares

-- notes of loads alone
abbrev pub AreFound : (notes : List Note) → Type 0
AreFound [] = Unit {0}
AreFound (Found at word ∷ older) = AreFound older
AreFound (Added at word n ∷ older) = ⊥
AreFound (Period word k ∷ older) = ⊥

-- the notes got more, of which a part got so much and no period began
pub record NotesGrew (added : ℕ → ℕ) (old new : List Note) : Type 0 where
  pub longer : Longer old new
  pub adds : (context : ℕ) → weigh (added_at (suc context)) new ≡ weigh (added_at (suc context)) old + added context
  pub begins_none : begun new ≡ begun old

-- loads, also those of a read, or of an addition that another thread came between
abbrev pub LooksAddNone : Type 0
LooksAddNone = (more : List Note) (old new : Seated) → AreFound more → Looks more old new → NotesGrew (λ context. 0) old.notes new.notes

-- an addition is noted as so many events of its context's part, and none of any other
abbrev pub AddIsNoted : Type 0
AddIsNoted = (context n : ℕ) (old new : Seated) → Adds context n old new
    → NotesGrew (λ of. if context == of then n else 0) old.notes new.notes

-- a fraction that was read may be kept, and none that was kept is of a later period
pub record ReadGives (context : ℕ) (fraction : Fraction) (old new : List Note) : Type 0 where
  pub was_read : WasRead new context fraction
  pub no_earlier : (before : Fraction) → IsKept old context before → before.period ≤ fraction.period

-- a read of a fraction lets the CPU keep it
abbrev pub ReadMayBeKept : Type 0
ReadMayBeKept = (context : ℕ) (fraction : Fraction) (old new : Seated) → Reads context fraction old new
    → ReadGives context fraction old.notes new.notes

-- periods that began are the newest, and in order
pub record BeginGives (k : ℕ) (old new : List Note) : Type 0 where
  pub begun_are : begun_at_once new ≡ k ∷ begun_at_once old
  pub in_order : AreInOrder old → AreInOrder new

-- periods that begin are noted as the newest
abbrev pub BeginIsNoted : Type 0
BeginIsNoted = (k : ℕ) (old new : Seated) → 1 ≤ k → Begins k true old new → BeginGives k old.notes new.notes

-- ---- estimates

-- a read publishes nothing
abbrev pub ReadTellsNothing : Type 0
ReadTellsNothing = (first : Estimate) (known : Known) (estimate : Estimate) → IsTold first [] known (after_read (note_of estimate) known)

-- what a pass publishes is told, where it follows the newest
abbrev pub PublishIsTold : Type 0
PublishIsTold = (first : Estimate) (known : Known) (newest estimate : Estimate) → known.publishes ≡ true → IsNewest first known newest
    → Follows newest estimate → IsTold first (estimate ∷ []) known (after_publish estimate known)

-- and the pass that publishes reads the newest
abbrev pub ReadIsNewest : Type 0
ReadIsNewest = (first : Estimate) (known : Known) (estimate : Estimate) → KnowsAll known → IsNewestNote known (note_of estimate)
    → (estimate.version ≡ 0 → estimate ≡ first) → IsNewest first known estimate
