-- The waiting list: pairs of an inode and the moment at which it is due, in order.
use Rattle.std.specs.Prelude.{◌≡◌, ◌≢◌, ◌<◌, ◌⊎◌, ◌==◌, ℕ, zero, suc, Bool, true, false, ltb, ◌||◌, ◌&&◌, List, [], ◌∷◌}
use Rattle.wbt_expiry.specs.declared.due.Due.{Due}

-- What a wheel stands for: its list, the greatest moment that it was told, and the number that its inodes are below.
pub record Waiting : Type 0 where
  pub pairs : List Due
  pub told : ℕ
  pub inodes : ℕ

-- A pair comes before another: it is due before it, or both are due at once and its inode has the smaller number.
abbrev pub ComesBefore : (pair other : Due) → Type 0
ComesBefore pair other = (pair.due < other.due) ⊎ ((pair.due ≡ other.due) × (pair.inode < other.inode))

-- whether a pair comes before another
abbrev pub comes_before : (pair other : Due) → Bool
comes_before pair other = ltb pair.due other.due || ((pair.due == other.due) && ltb pair.inode other.inode)

-- the list with a pair more, which stands before the first that comes after it
unfoldable pub with_pair : (pair : Due) (pairs : List Due) → List Due
with_pair pair [] = pair ∷ []
with_pair pair (other ∷ others) = elim (comes_before pair other) [ true ↦ pair ∷ other ∷ others | false ↦ other ∷ with_pair pair others ]

-- whether the list has a pair of the inode
unfoldable pub has_inode : (inode : ℕ) (pairs : List Due) → Bool
has_inode inode [] = false
has_inode inode (pair ∷ pairs) = (pair.inode == inode) || has_inode inode pairs

-- A statement holds of each pair.
abbrev pub Each : (P : Due → Type 0) (pairs : List Due) → Type 0
Each P [] = Unit {0}
Each P (pair ∷ pairs) = P pair × Each P pairs

-- The pairs are in order, and their inodes are distinct: each comes before all that follow, and none of these has its inode.
unfoldable pub AreInOrder : (pairs : List Due) → Type 0
AreInOrder [] = Unit {0}
AreInOrder (pair ∷ pairs) = Each (λ other. ComesBefore pair other × (pair.inode ≢ other.inode)) pairs × AreInOrder pairs

-- the pair of an inode
abbrev pub pair_of : (due : ℕ → ℕ) (inode : ℕ) → Due
pair_of due inode = record { due = due inode; inode = inode }

-- the list of the inodes below a number that wait, each with its due moment
unfoldable pub waiting : (due : ℕ → ℕ) (is_waiting : ℕ → Bool) (inodes : ℕ) → List Due
waiting due is_waiting zero = []
waiting due is_waiting (suc inode) = elim (is_waiting inode) [ true ↦ with_pair (pair_of due inode) (waiting due is_waiting inode) | false ↦ waiting due is_waiting inode ]
