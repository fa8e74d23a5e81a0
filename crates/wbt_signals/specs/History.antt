-- The one history of all operations on the words, and what each voice has of it.
use Rattle.std.specs.Prelude.{◌≡◌, ℕ, ◌+◌, ◌<◌, ◌==◌, ◌⊎◌, ltb, cond, not, List, [], ◌∷◌, length}
use Rattle.wbt_signals.specs.declared.rule.Act.{Act}
use Rattle.wbt_signals.specs.declared.rule.Act.TheVariants.{Ring, Listen, Stop, Count, Leave, Look}
use Rattle.wbt_signals.specs.declared.rule.Note.{Note}

-- one for an operation of this kind, and none for any other

-- one for ringing the bell
abbrev pub rings : (act : Act) → ℕ
rings Ring = 1
rings other = 0

-- one for saying of a worker that it writes no more
abbrev pub stops : (act : Act) → ℕ
stops Stop = 1
stops other = 0

-- one for saying of a worker that it leaves
abbrev pub leaves : (act : Act) → ℕ
leaves Leave = 1
leaves other = 0

-- how many operations of a kind these are
unfoldable pub many : (of : Act → ℕ) (notes : List Note) → ℕ
many of [] = 0
many of (note ∷ older) = of note.act + many of older

-- An answer is what stood then: the bell was rung exactly where that was done before; nobody writes exactly where it was said before of all
-- workers; and all have left exactly where each did so before.
abbrev pub Answers : (workers : ℕ) (older : List Note) (act : Act) → Type 0
Answers workers older (Listen heard) = heard ≡ not (many rings older == 0)
Answers workers older (Count quiet) = quiet ≡ (many stops older == workers)
Answers workers older (Look gone) = gone ≡ (many leaves older == workers)
Answers workers older other = Unit {0}

-- all operations of so many workers, the newest first: the places are 0, 1, 2 and so on, and each answer is what stood then
abbrev pub IsHistory : (workers : ℕ) (notes : List Note) → Type 0
IsHistory workers [] = Unit {0}
IsHistory workers (note ∷ older) = (note.place ≡ length older) × Answers workers older note.act × IsHistory workers older

-- these are some of the operations, in the same order
abbrev pub IsPart : (notes past : List Note) → Type 0
IsPart [] past = Unit {0}
IsPart (note ∷ notes) [] = ⊥
IsPart (note ∷ notes) (one ∷ older) = IsPart (note ∷ notes) older ⊎ ((note ≡ one) × IsPart notes older)

-- A voice noted an operation next after a history, `past`: what the voice had noted is part of it, and the answer is what then stood. That this
-- is the one history of all voices shows where all are joined: then their notes are one
pub record IsNoted (workers : ℕ) (act : Act) (old new : List Note) : Type 0 where
  pub past : List Note
  pub lawful : IsHistory workers past
  pub had : IsPart old past
  pub answers : Answers workers past act
  pub noted : new ≡ record { place = length past; act = act } ∷ old

-- the notes of two voices, the newest first

-- one note put into notes, the newest first, by its place
abbrev pub put_note : (note : Note) (notes : List Note) → List Note
put_note note [] = note ∷ []
put_note note (one ∷ older) = cond (ltb one.place note.place) (note ∷ one ∷ older) (one ∷ put_note note older)

-- the notes of two voices as one list
abbrev pub merged : (notes others : List Note) → List Note
merged [] others = others
merged (note ∷ older) others = put_note note (merged older others)

-- ---- which voice has which operation

-- an operation, with the number of the voice that has it
pub record Owned : Type 0 where
  pub owner : ℕ
  pub note : Note

-- the operations alone, without their owners
abbrev pub history_of : (past : List Owned) → List Note
history_of [] = []
history_of (one ∷ older) = one.note ∷ history_of older

-- what of it this voice has
abbrev pub notes_of : (id : ℕ) (past : List Owned) → List Note
notes_of id [] = []
notes_of id (one ∷ older) = cond (one.owner == id) (one.note ∷ notes_of id older) (notes_of id older)

-- each is had by one of so many voices
abbrev pub AreOwned : (voices : ℕ) (past : List Owned) → Type 0
AreOwned voices [] = Unit {0}
AreOwned voices (one ∷ older) = (one.owner < voices) × AreOwned voices older
