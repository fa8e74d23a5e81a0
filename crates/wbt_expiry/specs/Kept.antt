-- What a wheel keeps, and the waiting list that it stands for.
use Rattle.std.specs.Prelude.{◌≡◌, ◌<◌, ◌≤◌, ◌+◌, ◌-◌, ◌^◌, ℕ, List, ◌∷◌, length, Option, MatchOption}
use Rattle.wbt_expiry.specs.declared.due.Due.{Due}
use Rattle.wbt_expiry.specs.Lists.{home, no_list, due_of}
use Rattle.wbt_expiry.specs.Filed.{is_in, AreFiled}
use Rattle.wbt_expiry.specs.Waiting.{waiting, Each}

-- how far after the greatest moment told an inode may be due
abbrev pub reach : ℕ
reach = 2 ^ 24 - 1

-- the list of the inodes that are in some list of the wheel
abbrev pub pairs_of : (dues homes : List ℕ) → List Due
pairs_of dues homes = waiting (due_of dues) (is_in homes) (length dues)

-- A wheel's pairs are filed, and none is due later than a put at this moment could be.
pub record IsKept (told base : ℕ) (dues homes : List ℕ) : Type 0 where
  pub filed : AreFiled base dues homes
  pub early : told < 2 ^ 62
  pub soon : (inode : ℕ) → home homes inode < no_list → due_of dues inode ≤ told + reach

-- No pair of the list is due by a moment.
abbrev pub NoneDue : (to : ℕ) (pairs : List Due) → Type 0
NoneDue to pairs = Each (λ pair. to < pair.due) pairs

-- Where the first pair is due by a moment it was taken, else none is due by then and the list stays.
abbrev pub TakesFirst : (to : ℕ) (old new : List Due) (taken : Option Due) → Type 0
TakesFirst to old new taken = MatchOption taken (NoneDue to old × (new ≡ old)) (λ pair. (pair.due ≤ to) × (old ≡ pair ∷ new))
