-- One history of a domain's steps. Each stands in its place, with the word that it found and the word that it left.
use Rattle.std.specs.Prelude.{◌≡◌, ℕ, zero, suc, ◌+◌, ◌-◌, ◌≤◌, ◌==◌, ◌⊎◌, cond, nat_lt, List, [], ◌∷◌, ◌++◌, length, map}
use Rattle.wbt_flex.specs.Eager.{halved}
use Rattle.wbt_fraction.specs.declared.domain.note.Note.{Note}
use Rattle.wbt_fraction.specs.declared.domain.note.Note.TheVariants.{Found, Added, Period}
use Rattle.wbt_fraction.specs.declared.domain.note.Made.{Made}
use Rattle.wbt_fraction.specs.declared.domain.note.Trail.{Trail}
use Rattle.wbt_fraction.specs.Sums.{total}
use Rattle.wbt_fraction.specs.Words.{period_of, events_of, word_of}
use Rattle.wbt_fraction.specs.Numbers.{start_of}
use Rattle.wbt_fraction.specs.Notes.{at_of, found_of, IsPast}

-- the notes of steps, in the same order
abbrev pub notes_of : (steps : List Made) → List Note
notes_of steps = map (λ (m : Made). m.note) steps

-- the word that stands at a place after these steps, the newest first: what the last step there left, or the first word
unfoldable pub word_at : (at : ℕ) (steps : List Made) → ℕ
word_at at [] = start_of at
word_at at (m ∷ older) = cond (at_of m.note == at) m.left (word_at at older)

-- the word that a step leaves that ages no part: the word it found, with its events added, or after its periods
abbrev pub left_by : (note : Note) → ℕ
left_by (Found at word) = word
left_by (Added at word n) = word + n
left_by (Period word k) = word_of (period_of word + k) (halved k (events_of word))

-- a word brought to a later period: the same number, halved once for each period between
abbrev pub aged_to : (period word : ℕ) → ℕ
aged_to period word = word_of period (halved (period - period_of word) (events_of word))

-- the step aged its part: it left the same number at a later period that the domain had
unfoldable pub IsAged : (note : Note) (left : ℕ) (older : List Made) → Type 0
IsAged (Found zero word) left older = ⊥
IsAged (Found (suc part) word) left older = (period : ℕ) × IsPast period (notes_of older) × (period_of word ≤ period) × (left ≡ aged_to period word)
IsAged (Added at word n) left older = ⊥
IsAged (Period word k) left older = ⊥

-- from the newest on: each step stands in its place, found what then stood in its word, and left what its kind leaves
unfoldable pub AreInOrder : (steps : List Made) → Type 0
AreInOrder [] = Unit {0}
AreInOrder (m ∷ older) = (m.place ≡ length older) × (found_of m.note ≡ word_at (at_of m.note) older)
    × ((m.left ≡ left_by m.note) ⊎ IsAged m.note m.left older) × AreInOrder older

-- each of these steps is one of those, and none is there twice
abbrev pub AreAmong : {A : Type 0} (own all : List A) → Type 0
AreAmong {A} own all = (weight : A → ℕ) → total weight own ≤ total weight all

-- a history goes on from another
abbrev pub IsEnd : {A : Type 0} (older all : List A) → Type 0
IsEnd {A} older all = (newer : List A) × (all ≡ newer ++ older)

-- the step that is made after these
abbrev pub made_after : (past : List Made) (note : Note) (left : ℕ) → Made
made_after past note left = record { place = length past; note = note; left = left }

-- a seat's own steps with one more, which was made after all that anyone had made
abbrev pub went_on : (past : List Made) (note : Note) (left : ℕ) (old : Trail) → Trail
went_on past note left old = record { own = made_after past note left ∷ old.own; known = made_after past note left ∷ past }

-- One step was made, after all that had been made by anyone: `past` is that. The word that the step found stood there then
pub record Makes (note : Note) (left : ℕ) (old new : Trail) : Type 0 where
  pub past : List Made
  -- it goes on from what the seat knew
  pub since : IsEnd old.known past
  pub found : found_of note ≡ word_at (at_of note) past
  pub is : new ≡ went_on past note left old
  -- all that the seat now knows is in order, with the seat's own steps in their places
  pub in_order : AreInOrder new.known
  pub own : AreAmong new.own new.known

-- these steps were made, one after another, the newest first, and none of them aged a part
unfoldable pub AreMade : (notes : List Note) (old new : Trail) → Type 0
AreMade [] old new = new ≡ old
AreMade (note ∷ earlier) old new = (mid : Trail) × AreMade earlier old mid × Makes note (left_by note) mid new

-- a seat's own steps are all that were ever made, each in its place in one history
pub record IsWhole (trail : Trail) : Type 0 where
  pub history : List Made
  pub same : (weight : Made → ℕ) → total weight trail.own ≡ total weight history
  pub in_order : AreInOrder history
  pub since : IsEnd trail.known history

-- nothing was made yet
abbrev pub no_trail : Trail
no_trail = record { own = []; known = [] }

-- of two histories the longer
abbrev pub later_of : {A : Type 0} (one other : List A) → List A
later_of one other = cond (nat_lt (length one) (length other)) other one

-- what two seats made and know, brought together
abbrev pub joined_trail : (trail other : Trail) → Trail
joined_trail trail other = record { own = other.own ++ trail.own; known = later_of trail.known other.known }

-- a new seat made nothing, and knows what the seat knew from which it was split
abbrev pub fresh_trail : (trail : Trail) → Trail
fresh_trail trail = record { own = []; known = trail.known }
