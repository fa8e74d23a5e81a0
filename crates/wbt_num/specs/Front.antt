-- The front of a list.
use Rattle.std.specs.Prelude.{List, [], ◌∷◌, Option, Some, None}

-- the item at the front, none where the list is empty
abbrev pub first : {A : Type 0} (items : List A) → Option A
first [] = None
first (x ∷ xs) = Some x
