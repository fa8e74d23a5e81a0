-- Rows of values, by the number of the row.
use Rattle.std.specs.Prelude.{ℕ, Option, List, [], ◌∷◌, ◌++◌, get_or, set, slice_get}

-- a row; none has values that there isn't
abbrev pub row_of : {A : Type 0} (rows : List (List A)) (row : ℕ) → List A
row_of rows row = get_or rows row []

-- a value by its row and its place in it
abbrev pub cell : {A : Type 0} (rows : List (List A)) (row place : ℕ) → Option A
cell rows row place = slice_get (row_of rows row) place

-- the rows with one more value at the end of one, and with another value at a place of one
abbrev pub push_cell : {A : Type 0} (rows : List (List A)) (row : ℕ) (value : A) → List (List A)
push_cell rows row value = set rows row (row_of rows row ++ value ∷ [])

-- the rows with another value at a place of one
abbrev pub put_cell : {A : Type 0} (rows : List (List A)) (row place : ℕ) (value : A) → List (List A)
put_cell rows row place value = set rows row (set (row_of rows row) place value)
