-- The home of each number: the list that it is in.
use Rattle.std.specs.Prelude.{◌≡◌, ◌≢◌, ◌<◌, ◌≤◌, ◌⊎◌, ℕ, List, get_or}

-- stands for no list, as the home of a number that is in none
abbrev pub no_list : ℕ
no_list = 258

-- the list that a number is in
abbrev pub home : (homes : List ℕ) (number : ℕ) → ℕ
home homes number = get_or homes number no_list

-- no number is in the list
abbrev pub IsEmpty : (homes : List ℕ) (list : ℕ) → Type 0
IsEmpty homes list = (number : ℕ) → home homes number ≢ list

-- when an inode is due
abbrev pub due_of : (dues : List ℕ) (inode : ℕ) → ℕ
due_of dues inode = get_or dues inode 0

-- An inode isn't behind another: it is due before it, or at once and its number isn't greater.
abbrev pub IsUpTo : (dues : List ℕ) (inode other : ℕ) → Type 0
IsUpTo dues inode other = (due_of dues inode < due_of dues other) ⊎ ((due_of dues inode ≡ due_of dues other) × (inode ≤ other))

-- A number is in the list, and isn't behind any other of the list.
pub record IsLeast (dues homes : List ℕ) (list number : ℕ) : Type 0 where
  pub within : home homes number ≡ list
  pub least : (other : ℕ) → home homes other ≡ list → IsUpTo dues number other
