-- Pairs filed in the slots of the wheel.
use Rattle.std.specs.Prelude.{◌≡◌, ◌≢◌, ◌<◌, ◌≤◌, ◌+◌, ◌*◌, ◌/◌, ◌^◌, ℕ, Bool, ltb, List, length, Option, None, Some}
use Rattle.wbt_expiry.specs.declared.due.Due.{Due}
use Rattle.wbt_expiry.specs.Lists.{home, no_list, due_of, IsUpTo}
use Rattle.wbt_expiry.specs.Slots.{slot, span, list_of, loose}

-- whether an inode is in a list
abbrev pub is_in : (homes : List ℕ) (inode : ℕ) → Bool
is_in homes inode = ltb (home homes inode) no_list

-- The pairs of all inodes that wait are filed from a base: each is in the list of its due moment, and this isn't too far for
-- the slots. No moment passes 63 bits.
pub record AreFiled (base : ℕ) (dues homes : List ℕ) : Type 0 where
  pub lengths : length dues ≡ length homes
  pub early : base < 2 ^ 63
  pub filed : (inode : ℕ) → home homes inode < no_list → home homes inode ≡ slot base (due_of dues inode)
  pub near : (inode : ℕ) → home homes inode < no_list → due_of dues inode / 262144 ≤ base / 262144 + 64
  pub due_early : (inode : ℕ) → home homes inode < no_list → due_of dues inode < 2 ^ 63

-- where a pair goes that is filed anew: to the loose list where there is no base, else to its slot
abbrev pub new_home : (base : Option ℕ) (due : ℕ) → ℕ
new_home None due = loose
new_home (Some base) due = slot base due

-- The pairs of a list were filed anew, and all others stayed.
pub record AreMoved (dues : List ℕ) (base : Option ℕ) (list : ℕ) (old new : List ℕ) : Type 0 where
  pub lengths : length new ≡ length old
  pub others : (inode : ℕ) → home old inode ≢ list → home new inode ≡ home old inode
  pub moved : (inode : ℕ) → home old inode ≡ list → home new inode ≡ new_home base (due_of dues inode)

-- All pairs are loose.
pub record AreLoose (old new : List ℕ) : Type 0 where
  pub lengths : length new ≡ length old
  pub others : (inode : ℕ) → no_list ≤ home old inode → home new inode ≡ home old inode
  pub loosened : (inode : ℕ) → home old inode < no_list → home new inode ≡ loose

-- The same inodes wait.
pub record SameWait (old new : List ℕ) : Type 0 where
  pub lengths : length new ≡ length old
  pub same : (inode : ℕ) → is_in new inode ≡ is_in old inode

-- No inode that waits is due by a moment.
abbrev pub IsNoneDue : (to : ℕ) (dues homes : List ℕ) → Type 0
IsNoneDue to dues homes = (inode : ℕ) → home homes inode < no_list → to < due_of dues inode

-- The pair of an inode was taken that isn't behind any other; all others wait as before.
pub record IsTaken (dues old new : List ℕ) (pair : Due) : Type 0 where
  pub lengths : length new ≡ length old
  pub waited : home old pair.inode < no_list
  pub due : pair.due ≡ due_of dues pair.inode
  pub first : (other : ℕ) → home old other < no_list → IsUpTo dues pair.inode other
  pub gone : no_list ≤ home new pair.inode
  pub others : (other : ℕ) → other ≢ pair.inode → is_in new other ≡ is_in old other

-- The first pair was taken where it is due by a moment.
abbrev pub FirstTaken : (to : ℕ) (dues old new : List ℕ) (pair : Due) → Type 0
FirstTaken to dues old new pair = (pair.due ≤ to) × IsTaken dues old new pair

-- No pair is in a list before this one: none is late, and none is in a lower level.
abbrev pub IsFrom : (level : ℕ) (homes : List ℕ) → Type 0
IsFrom level homes = (inode : ℕ) → home homes inode < no_list → (64 * level ≤ home homes inode) × (home homes inode < 256)

-- A level has no pair.
abbrev pub IsIdle : (level : ℕ) (homes : List ℕ) → Type 0
IsIdle level homes = (inode : ℕ) → home homes inode < no_list → 64 * level ≤ home homes inode → 64 * level + 64 ≤ home homes inode

-- A slot is the first of its level that isn't empty.
pub record IsFirstSlot (level : ℕ) (dues homes : List ℕ) (place : ℕ) : Type 0 where
  pub held : ℕ
  pub is_held : home homes held ≡ list_of level place
  pub at : due_of dues held / span level ≡ place
  pub first : (inode : ℕ) → 64 * level ≤ home homes inode → home homes inode < 64 * level + 64 → place ≤ due_of dues inode / span level

-- A slot is the first of the levels below one that isn't empty.
pub record IsFirstBelow (levels : ℕ) (dues homes : List ℕ) (level place : ℕ) : Type 0 where
  pub below : level < levels
  pub from : IsFrom level homes
  pub first : IsFirstSlot level dues homes place

-- Pairs of a level went into lower ones: the same inodes wait, none is late, and one at least is in a lower level.
pub record IsLowered (level : ℕ) (old new : List ℕ) : Type 0 where
  pub same : SameWait old new
  pub from : IsFrom 0 new
  pub held : ℕ
  pub lower : home new held < 64 * level
