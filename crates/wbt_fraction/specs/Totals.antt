-- What each context wrote in all: a word is the sum of all that was counted into it.
use Rattle.std.specs.Prelude.{◌≡◌, ℕ, ◌+◌, ◌-◌, ◌^◌, ◌<◌, ◌≤◌, ◌==◌, cond, List, [], ◌∷◌, ◌++◌, map, replicate, length, slice_index_or, slice_set}
use mathlib.Core.Option.{some}
use lib.ListN.{get_elem?}
use Rattle.atomic_table.specs.Seated.{TableId}
use Rattle.atomic_table.specs.Table.{State, Me, Step}
use Rattle.wbt_fraction.specs.declared.total.note.TotalNote.{TotalNote}
use Rattle.wbt_fraction.specs.declared.total.note.TotalNote.TheVariants.{Saw, Wrote}
use Rattle.wbt_fraction.specs.declared.total.note.Tally.{Tally}
use Rattle.wbt_fraction.specs.declared.total.note.TotalTrail.{TotalTrail}
use Rattle.wbt_fraction.specs.declared.total.rule.TotalView.{TotalView}
use Rattle.wbt_fraction.specs.declared.total.rule.Contexts.{Contexts}
use Rattle.wbt_fraction.specs.Sums.{total}
use Rattle.wbt_fraction.specs.History.{AreAmong, IsEnd, later_of}

-- the context that a note speaks of
abbrev pub at_of : (note : TotalNote) → ℕ
at_of (Saw at word) = at
at_of (Wrote at word n) = at

-- the word that the step found
abbrev pub found_of : (note : TotalNote) → ℕ
found_of (Saw at word) = word
found_of (Wrote at word n) = word

-- the word as the step left it
abbrev pub reach_of : (note : TotalNote) → ℕ
reach_of (Saw at word) = word
reach_of (Wrote at word n) = word + n

-- what a step counted into one word
abbrev pub wrote_at : (at : ℕ) (note : TotalNote) → ℕ
wrote_at at (Saw a word) = 0
wrote_at at (Wrote a word n) = cond (a == at) n 0

-- each step found the sum of what was counted before
unfoldable pub IsHistory : (notes : List TotalNote) → Type 0
IsHistory [] = Unit {0}
IsHistory (note ∷ older) = (found_of note ≡ total (wrote_at (at_of note)) older) × IsHistory older

-- the notes of steps, in the same order
abbrev pub total_notes : (steps : List Tally) → List TotalNote
total_notes steps = map (λ (t : Tally). t.note) steps

-- from the newest on: each step stands in its place, and found the sum of what was counted before
unfoldable pub AreTallied : (steps : List Tally) → Type 0
AreTallied [] = Unit {0}
AreTallied (t ∷ older) = (t.place ≡ length older) × (found_of t.note ≡ total (wrote_at (at_of t.note)) (total_notes older)) × AreTallied older

-- a seat's own steps with one more, which was made after all that anyone had made
abbrev pub tallied : (past : List Tally) (note : TotalNote) (old : TotalTrail) → TotalTrail
tallied past note old = record { own = record { place = length past; note = note } ∷ old.own; known = record { place = length past; note = note } ∷ past }

-- One step was made, after all that had been made by anyone: `past` is that. What the step found is the sum of what was counted then
pub record MakesTally (note : TotalNote) (old new : TotalTrail) : Type 0 where
  pub past : List Tally
  -- it goes on from what the seat knew
  pub since : IsEnd old.known past
  pub found : found_of note ≡ total (wrote_at (at_of note)) (total_notes past)
  pub is : new ≡ tallied past note old
  -- all that the seat now knows is in order, with the seat's own steps in their places
  pub in_order : AreTallied new.known
  pub own : AreAmong new.own new.known

-- a seat's own steps are all that were ever made, each in its place in one history
pub record IsEachTally (trail : TotalTrail) : Type 0 where
  pub history : List Tally
  pub same : (weight : Tally → ℕ) → total weight trail.own ≡ total weight history
  pub in_order : AreTallied history
  pub since : IsEnd trail.known history

-- nothing was made yet
abbrev pub no_tallies : TotalTrail
no_tallies = record { own = []; known = [] }

-- what two seats made and know, brought together
abbrev pub total_joined : (trail other : TotalTrail) → TotalTrail
total_joined trail other = record { own = other.own ++ trail.own; known = later_of trail.known other.known }

-- a new seat made nothing, and knows what the seat knew from which it was split
abbrev pub total_fresh : (trail : TotalTrail) → TotalTrail
total_fresh trail = record { own = []; known = trail.known }

-- how much may still be counted into one word
abbrev pub room_of : (at : ℕ) (rooms : List ℕ) → ℕ
room_of at rooms = slice_index_or rooms at 0

-- what holds between any two steps of any threads: one history of all steps made the words
pub record Kept (key : Contexts) (s : State (Unit {0}) TotalView) : Type 0 where
  pub history : List Tally
  -- each step, with its place, is just one seat's
  pub noted : (h : Tally → ℕ) → total (λ v. total h v.trail.own) s.views ≡ total h history
  pub in_order : AreTallied history
  -- what a seat knows, the history goes on from
  pub ends : (j : ℕ) (v : TotalView) → get_elem? s.views j ≡ some v → IsEnd v.trail.known history
  pub lawful : IsHistory (total_notes history)
  pub words : (at : ℕ) → at < key.contexts → slice_index_or s.words at 0 ≡ total (wrote_at at) (total_notes history)
  pub stakes : total (λ v. v.stakes) s.views ≡ 2 ^ 32
  pub idle : (j : ℕ) (v : TotalView) → get_elem? s.views j ≡ some v → v.stakes ≡ 0 → v.trail.own ≡ []
  pub rooms : (at : ℕ) → at < key.contexts → total (λ v. room_of at v.rooms + total (wrote_at at) (total_notes v.trail.own)) s.views ≡ 2 ^ 39
  pub long : length s.words ≡ key.contexts

-- the first seat has all stakes and all room
abbrev pub first_view : (key : Contexts) → TotalView
first_view key = record { trail = no_tallies; stakes = 2 ^ 32; rooms = replicate key.contexts (2 ^ 39) }

-- a seat at the words
abbrev pub Sat : Type 0
Sat = Me (Unit {0}) TotalView

-- the notes are, in some order, all steps that were ever made
pub record HasAllTallies (notes : List TotalNote) : Type 0 where
  pub history : List TotalNote
  pub same : (h : TotalNote → ℕ) → total h notes ≡ total h history
  pub lawful : IsHistory history

-- a seat with all stakes has all notes, and all steps in their places
abbrev pub KnowsAll : (me : Sat) → Type 0
KnowsAll me = me.0.stakes ≡ 2 ^ 32 → HasAllTallies (total_notes me.0.trail.own) × IsEachTally me.0.trail

-- no step found or left a greater number in this word
unfoldable pub NoneAbove : (at word : ℕ) (notes : List TotalNote) → Type 0
NoneAbove at word [] = Unit {0}
NoneAbove at word (note ∷ older) = (at_of note ≡ at → reach_of note ≤ word) × NoneAbove at word older

-- a load notes what it found, which is no less than anything the seat knows of
abbrev pub Loaded : (step : Step (Unit {0})) (old : Sat) (found : ℕ) (new : Sat) → Type 0
Loaded step old found new = MakesTally (Saw step.word found) old.0.trail new.0.trail × (new ≡ (record { trail = new.0.trail; stakes = old.0.stakes; rooms = old.0.rooms }, old.1))
    × NoneAbove step.word found (total_notes old.0.trail.own) × (total (wrote_at step.word) (total_notes old.0.trail.own) ≤ found)
    × (old.0.stakes ≡ 2 ^ 32 → found ≡ total (wrote_at step.word) (total_notes old.0.trail.own))
    × (found ≤ 2 ^ 39) × KnowsAll new

-- the rooms after so much was counted into one word
abbrev pub lowered : (at n : ℕ) (rooms : List ℕ) → List ℕ
lowered at n rooms = slice_set rooms at (room_of at rooms - n)

-- an addition takes from the room of its word
abbrev pub Counted : (step : Step (Unit {0})) (old : Sat) (found : ℕ) (new : Sat) → Type 0
Counted st m n m' = MakesTally (Wrote st.word n st.first) m.0.trail m'.0.trail
    × (m' ≡ (record { trail = m'.0.trail; stakes = m.0.stakes; rooms = lowered st.word st.first m.0.rooms }, m.1)) × KnowsAll m'

-- a seat as contracts see it
pub record TotalSeated : Type 0 where
  pub table : TableId
  pub notes : List TotalNote
  pub trail : TotalTrail
  pub stakes : ℕ
  pub rooms : List ℕ

-- a seat with all stakes has all notes, as contracts see it
abbrev pub HasEachTally : (seat : TotalSeated) → Type 0
HasEachTally seat = seat.stakes ≡ 2 ^ 32 → HasAllTallies seat.notes

-- and its steps are all that were ever made, each in its place in one history
abbrev pub HasEachStep : (seat : TotalSeated) → Type 0
HasEachStep seat = seat.stakes ≡ 2 ^ 32 → IsEachTally seat.trail

-- a note of each own step, and no other
abbrev pub NotesTallies : (seat : TotalSeated) → Type 0
NotesTallies seat = seat.notes ≡ total_notes seat.trail.own

-- the totals as contracts see them
pub record TotalShape : Type 0 where
  pub table : TableId
  pub contexts : ℕ

-- a split moves one stake and 2^33 of each room to the new seat
abbrev pub left_view : (view : TotalView) → TotalView
left_view v = record { trail = v.trail; stakes = v.stakes - 1; rooms = map (λ r. r - 2 ^ 33) v.rooms }

-- the new seat: one stake, 2^33 of room for each total, and no step of its own
abbrev pub right_view : (view : TotalView) → TotalView
right_view v = record { trail = total_fresh v.trail; stakes = 1; rooms = map (λ r. 2 ^ 33) v.rooms }

-- two lists added up, place by place
abbrev pub sums : (xs ys : List ℕ) → List ℕ
sums [] ys = ys
sums (x ∷ xs) [] = x ∷ xs
sums (x ∷ xs) (y ∷ ys) = (x + y) ∷ sums xs ys

-- a join brings notes, stakes and rooms together
abbrev pub joined : (view other : TotalView) → TotalView
joined v w = record { trail = total_joined v.trail w.trail; stakes = v.stakes + w.stakes; rooms = sums v.rooms w.rooms }

-- a seat whose steps, stakes and rooms went to another
abbrev pub spent : TotalView
spent = record { trail = no_tallies; stakes = 0; rooms = [] }

-- a look that notes nothing tells a seat with all stakes that it has all notes
abbrev pub Told : (step : Step (Unit {0})) (old : Sat) (found : ℕ) (new : Sat) → Type 0
Told st m n m' = (m' ≡ m) × (m.0.stakes ≡ 2 ^ 32 → HasAllTallies (total_notes m.0.trail.own) × IsEachTally m.0.trail × (n ≡ total (wrote_at st.word) (total_notes m.0.trail.own)))
