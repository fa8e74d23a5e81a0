-- Which fields the lines of a plain journal have, and the ranges of their numbers.
use Rattle.std.specs.Prelude.{◌<◌, ◌^◌, pos, negsuc, List, [], ◌∷◌}
use Rattle.wbt_journal.specs.declared.word.Word.{Word}
use Rattle.wbt_journal.specs.declared.word.Word.TheVariants as word
use Rattle.wbt_journal.specs.declared.field.Field.{Field}
use Rattle.wbt_journal.specs.declared.field.Field.TheVariants.{Name, Int, Domain, Context}
use Rattle.wbt_journal.specs.Line.{Line}

-- what a field of a line holds, with the range of its number
pub data Form : Type 0 where
  -- a number of 32 bits
  small : Form
  -- a number of 64 bits
  big : Form
  -- a number of 64 bits, of which one is its sign
  signed : Form
  -- the name of a counter, a number of 32 bits
  counter : Form
  -- a word
  name : Form

-- the field has the form
abbrev pub IsOf : (form : Form) (field : Field) → Type 0
IsOf small (Int (pos n)) = n < 2 ^ 32
IsOf big (Int (pos n)) = n < 2 ^ 64
IsOf signed (Int (pos n)) = n < 2 ^ 63
IsOf signed (Int (negsuc n)) = n < 2 ^ 63
IsOf counter (Domain domain) = domain < 2 ^ 32
IsOf counter (Context context) = context < 2 ^ 32
IsOf name (Name word) = Unit {0}
IsOf form field = ⊥

-- the fields have the forms, one by one, and are as many
abbrev pub AreOf : (forms : List Form) (fields : List Field) → Type 0
AreOf [] [] = Unit {0}
AreOf (form ∷ forms) (field ∷ fields) = IsOf form field × AreOf forms fields
AreOf forms fields = ⊥

-- the forms of the fields after a word; the words of steps and of strict contexts are in no plain journal
abbrev pub forms_of : (word : Word) → List Form
forms_of word.Limits = small ∷ big ∷ big ∷ big ∷ big ∷ []
forms_of word.Period = small ∷ big ∷ []
forms_of word.Cpu = big ∷ []
forms_of word.Write = small ∷ small ∷ name ∷ []
forms_of word.Fold = counter ∷ big ∷ signed ∷ []
forms_of word.Read = small ∷ big ∷ big ∷ big ∷ big ∷ big ∷ signed ∷ big ∷ big ∷ big ∷ []
forms_of word.Count = small ∷ big ∷ signed ∷ []
forms_of word.Check = small ∷ small ∷ big ∷ big ∷ name ∷ big ∷ big ∷ big ∷ big ∷ big ∷ []
forms_of word.Claim = small ∷ small ∷ []
forms_of word.Batch = small ∷ small ∷ big ∷ big ∷ []
forms_of word.Done = small ∷ small ∷ []
forms_of word.Share = small ∷ small ∷ big ∷ []
forms_of word.Est = small ∷ big ∷ big ∷ big ∷ big ∷ big ∷ big ∷ big ∷ big ∷ []
forms_of word.Fault = small ∷ small ∷ []
forms_of word.Back = small ∷ small ∷ name ∷ []
forms_of word.Notice = small ∷ small ∷ big ∷ []
forms_of word.Age = small ∷ small ∷ big ∷ big ∷ []
forms_of word.Take = small ∷ small ∷ []
forms_of word.Left = small ∷ name ∷ []
forms_of word.Census = big ∷ big ∷ []
forms_of word.Totals = big ∷ big ∷ []
forms_of word.End = name ∷ []
forms_of other = []

-- the line has as many fields as its word asks for, and each is in its range
abbrev pub HasForm : (l : Line) → Type 0
HasForm l = AreOf (forms_of l.word) l.fields
