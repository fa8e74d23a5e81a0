-- Numbers of a list's items, added up.
use Rattle.std.specs.Prelude.{ℕ, ◌+◌, List, [], ◌∷◌}

-- a number of each item, added up
unfoldable pub total : {A : Type 0} (of : A → ℕ) (items : List A) → ℕ
total of [] = 0
total of (item ∷ more) = of item + total of more
