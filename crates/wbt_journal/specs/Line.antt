-- A line of a journal is a word and fields. In its text a space stands before each field, and a line feed at the end.
use Rattle.std.specs.Prelude.{ℕ, List, [], ◌∷◌, ◌++◌, flat_map, pos}
use Rattle.std.specs.Fmt.{decimal, signed_decimal}
use Rattle.wbt_journal.specs.declared.word.Word.{Word}
use Rattle.wbt_journal.specs.declared.field.Field.{Field}
use Rattle.wbt_journal.specs.declared.field.Field.TheVariants.{Name, Int, Domain, Context}
use Rattle.wbt_journal.specs.Word.{word_text}

-- a line of a journal
pub record Line : Type 0 where
  pub word : Word
  pub fields : List Field

-- a line of a word and its fields
abbrev pub line : (word : Word) (fields : List Field) → Line
line word fields = record { word = word; fields = fields }

-- a number that isn't below zero
abbrev pub num : (n : ℕ) → Field
num n = Int (pos n)

-- a counter's name is a letter and a number
abbrev pub field_text : (field : Field) → List ℕ
field_text (Name word) = word_text word
field_text (Int number) = signed_decimal number
field_text (Domain domain) = 100 ∷ decimal domain
field_text (Context context) = 99 ∷ decimal context

-- the text of fields, a space before each
abbrev pub fields_text : (fields : List Field) → List ℕ
fields_text fields = flat_map (λ field. 32 ∷ field_text field) fields

-- the text of a line with its line feed
abbrev pub line_text : (l : Line) → List ℕ
line_text l = word_text l.word ++ (fields_text l.fields ++ 10 ∷ [])

-- the text of lines, one after another
abbrev pub lines_text : (lines : List Line) → List ℕ
lines_text lines = flat_map line_text lines
