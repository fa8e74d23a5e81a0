-- What holds of the notes of a seat that has them all.
use Rattle.std.specs.Prelude.{◌≡◌, ℕ, ◌+◌, ◌<◌, ◌≤◌, List, [], ◌∷◌, map}
use Rattle.wbt_fraction.specs.declared.domain.note.Note.{Note}
use Rattle.wbt_fraction.specs.declared.domain.note.Note.TheVariants.{Found, Added, Period}
use Rattle.wbt_fraction.specs.Sums.{total}
use Rattle.wbt_fraction.specs.Words.{period_of, events_of}
use Rattle.wbt_fraction.specs.Numbers.{start_of}
use Rattle.wbt_fraction.specs.Several.{Shared, Seats, IsSeatOf, HasRoom, HasTotalRoom, AllJoined, IsTotalJoined, IsParted, CanSplit, left_of, right_of, total_left, total_right}
use Rattle.wbt_fraction.specs.Notes.{at_of, found_of, added_at, IsPast, IsComplete}

-- it holds of each note
unfoldable pub Each : (holds : Note → Type 0) (notes : List Note) → Type 0
Each P [] = Unit {0}
Each P (note ∷ older) = P note × Each P older

-- a period that any step found is 0, or the sum of the first few that began
abbrev pub PeriodsArePast : Type 0
PeriodsArePast = (notes : List Note) (complete : IsComplete notes)
    → Each (λ note. IsPast (period_of (found_of note)) complete.history) notes

-- no step found more events in a word than were added to it in all
abbrev pub EventsWereAdded : Type 0
EventsWereAdded = (notes : List Note) → IsComplete notes
    → Each (λ note. events_of (found_of note) ≤ start_of (at_of note) + total (added_at (at_of note)) notes) notes

-- the words at which periods began, and how many at each, the newest first
unfoldable pub begun : (notes : List Note) → List (ℕ × ℕ)
begun [] = []
begun (Found at word ∷ older) = begun older
begun (Added at word n ∷ older) = begun older
begun (Period word k ∷ older) = (word, k) ∷ begun older

-- all of these began before this period
unfoldable pub AllBelow : (period : ℕ) (older : List (ℕ × ℕ)) → Type 0
AllBelow period [] = Unit {0}
AllBelow period (b ∷ older) = (period_of b.0 < period) × AllBelow period older

-- from the newest on, each began before the one after it
unfoldable pub Falls : (begun : List (ℕ × ℕ)) → Type 0
Falls [] = Unit {0}
Falls (b ∷ older) = AllBelow (period_of b.0) older × Falls older

-- a seat that was split, and then takes in the new seat again, is what it was
abbrev pub SplitIsUndone : Type 0
SplitIsUndone = (shared : Shared) (old new : Seats) → IsSeatOf shared old → HasRoom old.domains → HasTotalRoom shared.totals old.totals
    → AllJoined (map left_of old.domains) (map right_of old.domains) new.domains → IsTotalJoined (total_left old.totals) (total_right old.totals) new.totals → new ≡ old

-- a seat that can be split at all has what a split needs
abbrev pub SplitterHasRoom : Type 0
SplitterHasRoom = (shared : Shared) (seat : Seats) (more : ℕ) → IsSeatOf shared seat → CanSplit (more + 1) shared seat → HasRoom seat.domains × HasTotalRoom shared.totals seat.totals

-- and after each split it can be split one time less
abbrev pub SplitterSplitsOn : Type 0
SplitterSplitsOn = (shared : Shared) (old left right : Seats) → IsParted shared old left right → (more : ℕ) → CanSplit (more + 1) shared old → CanSplit more shared left

-- where one thread began all periods, the order of its own notes is theirs
abbrev pub OrderIsOwn : Type 0
OrderIsOwn = (notes : List Note) (complete : IsComplete notes) → Falls (begun notes) → begun notes ≡ begun complete.history
