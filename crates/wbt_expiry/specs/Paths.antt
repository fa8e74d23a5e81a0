-- Paths of numbers by links: each number leads to one, and the last to none, for which the number of links stands.
use Rattle.std.specs.Prelude.{◌≡◌, ◌+◌, ◌<◌, ◌==◌, ℕ, zero, suc, true, false, cond, ltb, List, [], ◌∷◌, length, get_or}
use Rattle.wbt_expiry.specs.Lists.{home, no_list}

-- the number that a number leads to
abbrev pub next_of : (nexts : List ℕ) (number : ℕ) → ℕ
next_of nexts number = get_or nexts number 0

-- Whether the links lead along these numbers from a number on, and from the last one to none.
unfoldable pub IsPath : (nexts : List ℕ) (at : ℕ) (numbers : List ℕ) → Type 0
IsPath nexts at [] = at ≡ length nexts
IsPath nexts at (x ∷ xs) = (at ≡ x) × (x < length nexts) × IsPath nexts (next_of nexts x) xs

-- the numbers along which the links lead from a number on, at most so many
unfoldable pub path : (nexts : List ℕ) (most at : ℕ) → List ℕ
path nexts zero at = []
path nexts (suc most) at = elim (ltb at (length nexts)) [ true ↦ at ∷ path nexts most (next_of nexts at) | false ↦ [] ]

-- the numbers along which the links lead from a number on, at most as many as there are links
abbrev pub path_of : (nexts : List ℕ) (at : ℕ) → List ℕ
path_of nexts at = path nexts (length nexts) at

-- Whether the links lead to none in the end from a number on.
abbrev pub Ends : (nexts : List ℕ) (at : ℕ) → Type 0
Ends nexts at = IsPath nexts at (path_of nexts at)

-- how often a number stands in a list
unfoldable pub times_in : (number : ℕ) (list : List ℕ) → ℕ
times_in number [] = 0
times_in number (x ∷ xs) = cond (number == x) 1 0 + times_in number xs

-- Lists by their first numbers and links are sound: each ends, and on its path stand just the numbers whose home it is, each
-- once.
pub record AreSound (firsts nexts homes : List ℕ) : Type 0 where
  pub count : length firsts ≡ no_list
  pub long : length homes ≡ length nexts
  pub ends : (list : ℕ) → list < length firsts → Ends nexts (get_or firsts list 0)
  pub once : (list number : ℕ) → list < length firsts → number < length nexts →
      times_in number (path_of nexts (get_or firsts list 0)) ≡ cond (home homes number == list) 1 0
