-- A domain and a seat at it as contracts see them, and what each call on it notes.
use Rattle.std.specs.Prelude.{◌≡◌, ◌≢◌, ◌⊎◌, ℕ, suc, ◌-◌, ◌^◌, ◌<◌, ◌≤◌, Bool, cond, List, [], ◌∷◌, ◌++◌, IsSome, IsNone}
use Rattle.atomic_table.specs.Seated.{TableId}
use Rattle.wbt_flex.specs.declared.share.Fraction.{Fraction}
use Rattle.wbt_flex.specs.Proportions.{fraction_of, after_period}
use Rattle.wbt_fraction.specs.declared.domain.note.Note.{Note}
use Rattle.wbt_fraction.specs.declared.domain.note.Note.TheVariants.{Found, Added, Period}
use Rattle.wbt_fraction.specs.declared.domain.note.Trail.{Trail}
use Rattle.wbt_fraction.specs.declared.domain.words.Again.{Again}
use Rattle.wbt_fraction.specs.Words.{period_of, half_of}
use Rattle.wbt_fraction.specs.Notes.{NoneAfter, IsComplete}
use Rattle.wbt_fraction.specs.History.{notes_of, aged_to, Makes, AreMade, IsWhole}

-- whose words the seat is at, its notes, the newest first, the steps that it made, each in its place, and what it knows of all steps,
-- its stakes, and the events that it may still add
pub record Seated : Type 0 where
  pub table : TableId
  pub notes : List Note
  pub trail : Trail
  pub stakes : ℕ
  pub room : ℕ

-- a seat with all stakes has all notes
abbrev pub HasAllNotes : (seat : Seated) → Type 0
HasAllNotes seat = seat.stakes ≡ 2 ^ 32 → IsComplete seat.notes

-- and its steps are all that were ever made, each in its place in one history
abbrev pub HasAllSteps : (seat : Seated) → Type 0
HasAllSteps seat = seat.stakes ≡ 2 ^ 32 → IsWhole seat.trail

-- a note of each own step, and no other
abbrev pub NotesSteps : (seat : Seated) → Type 0
NotesSteps seat = seat.notes ≡ notes_of seat.trail.own

-- whose words a domain has, and how many parts
pub record Shape : Type 0 where
  pub table : TableId
  pub parts : ℕ

-- an addition first looks at the domain and at the part, and brings the part to the domain's period where it is behind
abbrev pub Ready : (part : ℕ) (more : List Note) → Type 0
Ready part more = (domain first : ℕ)
    × (((period_of domain ≤ period_of first) × (more ≡ Found (suc part) first ∷ Found 0 domain ∷ []))
    ⊎ ((period_of first < period_of domain) × (more ≡ Found (suc part) first ∷ Found (suc part) first ∷ Found 0 domain ∷ [])))

-- those looks in their places: the exchange found the part's word as it was loaded, and left it at the domain's period
abbrev pub MakesReady : (part : ℕ) (old new : Trail) → Type 0
MakesReady part old new = (domain first : ℕ) × (mid : Trail) × AreMade (Found (suc part) first ∷ Found 0 domain ∷ []) old mid
    × (((period_of domain ≤ period_of first) × (new ≡ mid))
    ⊎ ((period_of first < period_of domain) × Makes (Found (suc part) first) (aged_to (period_of domain) first) mid new))

-- there it found that another thread had changed the part
abbrev pub Missed : (part : ℕ) (again : Again) (more : List Note) → Type 0
Missed part again more = (domain : ℕ) × (period_of again.first < period_of domain) × (again.first ≢ again.second)
    × (more ≡ Found (suc part) again.second ∷ Found (suc part) again.first ∷ Found 0 domain ∷ [])

-- only these notes came, of steps that were made one after another. Each found the word that then stood in its place
pub record Looks (more : List Note) (old new : Seated) : Type 0 where
  pub table : new.table ≡ old.table
  pub notes : new.notes ≡ more ++ old.notes
  pub made : AreMade more old.trail new.trail
  pub noted : NotesSteps new
  pub whole : HasAllSteps new
  pub stakes : new.stakes ≡ old.stakes
  pub room : new.room ≡ old.room
  pub complete : HasAllNotes new

-- a read where a period began between its two looks at the domain
abbrev pub Between : (part : ℕ) (again : Again) (old new : Seated) → Type 0
Between part again old new = (period_of again.first ≢ period_of again.second) × ((word : ℕ) × Looks (Found 0 again.second ∷ Found (suc part) word ∷ Found 0 again.first ∷ []) old new)

-- a new period where the exchange found another word than was loaded; one could begin at that
abbrev pub Lost : (k : ℕ) (again : Again) (old new : Seated) → Type 0
Lost k again old new = IsSome (after_period (half_of again.first) k) × (again.first ≢ again.second) × Looks (Found 0 again.second ∷ Found 0 again.first ∷ []) old new

-- after those looks the part got n events, and then the domain did
pub record Adds (part n : ℕ) (old new : Seated) : Type 0 where
  pub looks : List Note
  pub ready : Ready part looks
  pub in_part : ℕ
  pub in_domain : ℕ
  pub table : new.table ≡ old.table
  pub notes : new.notes ≡ Added 0 in_domain n ∷ Added (suc part) in_part n ∷ looks ++ old.notes
  pub looked : Trail
  pub makes_ready : MakesReady part old.trail looked
  pub made : AreMade (Added 0 in_domain n ∷ Added (suc part) in_part n ∷ []) looked new.trail
  pub noted : NotesSteps new
  pub whole : HasAllSteps new
  pub stakes : new.stakes ≡ old.stakes
  pub room : new.room ≡ old.room - n
  pub complete : HasAllNotes new

-- the fraction is that of one period: both looks at the domain found it, and the look at the part between them none later
pub record Reads (part : ℕ) (fraction : Fraction) (old new : Seated) : Type 0 where
  pub first : ℕ
  pub word : ℕ
  pub second : ℕ
  pub looks : Looks (Found 0 second ∷ Found (suc part) word ∷ Found 0 first ∷ []) old new
  pub same_period : period_of first ≡ period_of second
  pub behind : period_of word ≤ period_of first
  pub value : fraction ≡ fraction_of (half_of word) (half_of first)
  -- the seat never saw a later period
  pub newest : NoneAfter fraction.period old.notes

-- k periods began at the word that was loaded; or none did, as that word had nothing to halve or no period is left
pub record Begins (k : ℕ) (begun : Bool) (old new : Seated) : Type 0 where
  pub first : ℕ
  pub told : cond begun (IsSome (after_period (half_of first) k) × Looks (Period first k ∷ Found 0 first ∷ []) old new) (IsNone (after_period (half_of first) k) × Looks (Found 0 first ∷ []) old new)
  -- the seat never saw a later period
  pub newest : NoneAfter (period_of first) old.notes
