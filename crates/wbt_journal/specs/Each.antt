-- What holds of each item of a list.
use Rattle.std.specs.Prelude.{List, [], ◌∷◌}

-- every item of the list has the property
abbrev pub Each : {A : Type 0} (a : A → Type 0) (items : List A) → Type 0
Each P [] = Unit {0}
Each P (x ∷ xs) = P x × Each P xs
