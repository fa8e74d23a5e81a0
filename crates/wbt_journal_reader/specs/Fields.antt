-- The fields of a line's text, with one space between two of them.
use Rattle.std.specs.Prelude.{◌≡◌, ℕ, ◌<◌, ◌^◌, pos, negsuc, List, [], ◌∷◌, ◌++◌}
use Rattle.std.specs.Fmt.{decimal}
use Rattle.wbt_journal.specs.declared.field.Field.{Field}
use Rattle.wbt_journal.specs.declared.field.Field.TheVariants.{Name, Int, Domain, Context}
use Rattle.wbt_journal.specs.Each.{Each}
use Rattle.wbt_journal.specs.Line.{field_text}

-- The text is that of the number, which has at most 64 bits.
abbrev pub IsNumber : (text : List ℕ) (n : ℕ) → Type 0
IsNumber text n = (n < 2 ^ 64) × (text ≡ decimal n)

-- The number of a counter's name has at most 32 bits, one below zero 63 of its own, and any other 64.
abbrev pub InRange : (field : Field) → Type 0
InRange (Name word) = Unit {0}
InRange (Int (pos n)) = n < 2 ^ 64
InRange (Int (negsuc n)) = n < 2 ^ 63
InRange (Domain domain) = domain < 2 ^ 32
InRange (Context context) = context < 2 ^ 32

-- The text is that of the field.
abbrev pub IsField : (text : List ℕ) (field : Field) → Type 0
IsField text field = InRange field × (text ≡ field_text field)

-- the text of a field and those after it
abbrev pub spaced : (field : Field) (fields : List Field) → List ℕ
spaced field [] = field_text field
spaced field (next ∷ more) = field_text field ++ 32 ∷ spaced next more

-- The text is that of these fields, one at least.
abbrev pub AreFields : (text : List ℕ) (fields : List Field) → Type 0
AreFields text [] = ⊥
AreFields text (field ∷ fields) = Each InRange (field ∷ fields) × (text ≡ spaced field fields)
