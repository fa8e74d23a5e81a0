-- Notes of steps on a domain's words, and what a list of them, the newest first, makes of each word.
use Rattle.std.specs.Prelude.{◌≡◌, ℕ, zero, suc, ◌+◌, ◌^◌, ◌<◌, ◌≤◌, ◌==◌, ◌⊎◌, cond, List, [], ◌∷◌}
use Rattle.wbt_fraction.specs.declared.domain.note.Note.{Note}
use Rattle.wbt_fraction.specs.declared.domain.note.Note.TheVariants.{Found, Added, Period}
use Rattle.wbt_fraction.specs.Sums.{total}
use Rattle.wbt_fraction.specs.Words.{period_of, events_of}
use Rattle.wbt_fraction.specs.Numbers.{Stamped, number, latest, start_of}

-- the place of the word that a note speaks of: 0 is the domain's, 1 + i that of part i
abbrev pub at_of : (note : Note) → ℕ
at_of (Found at word) = at
at_of (Added at word n) = at
at_of (Period word k) = 0

-- the word that the step found
abbrev pub found_of : (note : Note) → ℕ
found_of (Found at word) = word
found_of (Added at word n) = word
found_of (Period word k) = word

-- the period of the word as the step left it
abbrev pub reach_of : (note : Note) → ℕ
reach_of (Found at word) = period_of word
reach_of (Added at word n) = period_of word
reach_of (Period word k) = period_of word + k

-- all additions to one word
unfoldable pub additions : (at : ℕ) (notes : List Note) → List Stamped
additions at [] = []
additions at (Found a word ∷ older) = additions at older
additions at (Added a word n ∷ older) = cond (a == at) ((period_of word, n) ∷ additions at older) (additions at older)
additions at (Period word k ∷ older) = additions at older

-- how many periods began in all
unfoldable pub periods : (notes : List Note) → ℕ
periods [] = 0
periods (Found a word ∷ older) = periods older
periods (Added a word n ∷ older) = periods older
periods (Period word k ∷ older) = periods older + k

-- a period that the domain had: 0, or the sum of the first few that began
unfoldable pub IsPast : (period : ℕ) (notes : List Note) → Type 0
IsPast period [] = period ≡ 0
IsPast period (note ∷ older) = (period ≡ periods (note ∷ older)) ⊎ IsPast period older

-- the domain's word has the newest period, and a part's word one that the domain had
unfoldable pub InTime : (at period : ℕ) (notes : List Note) → Type 0
InTime zero period notes = period ≡ periods notes
InTime (suc part) period notes = IsPast period notes

-- the word at this place is what these notes made of it
pub record Shows (notes : List Note) (at word : ℕ) : Type 0 where
  pub number_is : events_of word ≡ number (start_of at) (additions at notes) (period_of word)
  pub stamped : latest (additions at notes) ≤ period_of word
  pub in_time : InTime at (period_of word) notes

-- a period begins only where there is something to halve and a period is left
unfoldable pub MayStand : (note : Note) → Type 0
MayStand (Found at word) = Unit {0}
MayStand (Added at word n) = Unit {0}
MayStand (Period word k) = (1 ≤ k) × (1 < events_of word) × (period_of word + k < 2 ^ 24)

-- each step found the word that the steps before it had made
unfoldable pub IsHistory : (notes : List Note) → Type 0
IsHistory [] = Unit {0}
IsHistory (note ∷ older) = Shows older (at_of note) (found_of note) × MayStand note × IsHistory older

-- the events that a step added to one word
abbrev pub added_at : (at : ℕ) (note : Note) → ℕ
added_at at (Found a word) = 0
added_at at (Added a word n) = cond (a == at) n 0
added_at at (Period word k) = 0

-- to the domain's word
abbrev pub added_domain : (note : Note) → ℕ
added_domain note = added_at 0 note

-- to the word of any part
abbrev pub added_part : (note : Note) → ℕ
added_part (Found a word) = 0
added_part (Added a word n) = cond (a == 0) 0 n
added_part (Period word k) = 0

-- no step found or left a later period than this
unfoldable pub NoneAfter : (period : ℕ) (notes : List Note) → Type 0
NoneAfter period [] = Unit {0}
NoneAfter period (note ∷ older) = (reach_of note ≤ period) × NoneAfter period older

-- some step found a word of this period
unfoldable pub IsReached : (period : ℕ) (notes : List Note) → Type 0
IsReached period [] = ⊥
IsReached period (note ∷ older) = (period_of (found_of note) ≡ period) ⊎ IsReached period older

-- the notes are, in some order, all steps that were ever made
pub record IsComplete (notes : List Note) : Type 0 where
  pub history : List Note
  pub same : (weight : Note → ℕ) → total weight notes ≡ total weight history
  pub lawful : IsHistory history
