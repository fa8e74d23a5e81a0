-- A bit for each list, which is 1 where the list isn't empty, and the search for the first slot of a level that isn't.
use Rattle.std.specs.Prelude.{◌≡◌, ◌<◌, ◌≤◌, ◌+◌, ◌/◌, ◌%◌, ◌==◌, ℕ, cond, List, length, get_or}
use Rattle.std.specs.Int.{bit_at}
use Rattle.wbt_expiry.specs.Lists.{home, no_list, IsEmpty}
use Rattle.wbt_expiry.specs.Slots.{list_of}
use Rattle.wbt_expiry.specs.Paths.{AreSound}

-- the bit of a list: 64 lists have theirs in one word
abbrev pub mark : (words : List ℕ) (list : ℕ) → ℕ
mark words list = bit_at (get_or words (list / 64) 0) (list % 64)

-- One list's bit was made another, and all other bits stayed.
pub record IsMarked (old new : List ℕ) (list bit : ℕ) : Type 0 where
  pub made : mark new list ≡ bit
  pub others : (other : ℕ) → other < no_list → (other ≡ list → ⊥) → mark new other ≡ mark old other

-- No bit of a word is set.
abbrev pub IsClear : (word : ℕ) → Type 0
IsClear word = (i : ℕ) → i < 64 → bit_at word i ≡ 0

-- So many bits after one stands the first that is set, round the word.
pub record IsAhead (word from bits : ℕ) : Type 0 where
  pub within : bits < 64
  pub is_set : bit_at word ((bits + from) % 64) ≡ 1
  pub before : (i : ℕ) → i < bits → bit_at word ((i + from) % 64) ≡ 0

-- A place is the first from a start on whose list in a level is marked, among 64 places: so many lists a level has.
pub record IsFirstMarked (words : List ℕ) (level start place : ℕ) : Type 0 where
  pub from : start ≤ place
  pub to : place < start + 64
  pub marked : mark words (list_of level place) ≡ 1
  pub before : (other : ℕ) → start ≤ other → other < place → mark words (list_of level other) ≡ 0

-- No list of a level is marked.
abbrev pub AreUnmarked : (words : List ℕ) (level : ℕ) → Type 0
AreUnmarked words level = (place : ℕ) → mark words (list_of level place) ≡ 0

-- Every list that has a first number is marked, and no other is.
abbrev pub AreTold : (words firsts : List ℕ) (none : ℕ) → Type 0
AreTold words firsts none = (list : ℕ) → list < no_list → mark words list ≡ cond (get_or firsts list 0 == none) 0 1

-- Lists are sound, and the marks tell which of them are empty.
pub record AreMarked (firsts nexts homes words : List ℕ) : Type 0 where
  pub sound : AreSound firsts nexts homes
  pub told : AreTold words firsts (length nexts)

-- A place is the first from a start on whose list in a level isn't empty, among 64 places.
pub record IsFirstFilled (homes : List ℕ) (level start place : ℕ) : Type 0 where
  pub from : start ≤ place
  pub to : place < start + 64
  pub held : ℕ
  pub is_held : home homes held ≡ list_of level place
  pub before : (other : ℕ) → start ≤ other → other < place → IsEmpty homes (list_of level other)

-- Every list of a level is empty.
abbrev pub AreEmpty : (homes : List ℕ) (level : ℕ) → Type 0
AreEmpty homes level = (place : ℕ) → IsEmpty homes (list_of level place)
