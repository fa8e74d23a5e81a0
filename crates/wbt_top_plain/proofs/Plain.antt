-- The text of a plain journal is that of no other.
use Rattle.std.proofs.Common.{arith, ◌≡◌, ℕ, ◌+◌, List, [], ◌∷◌, pos, negsuc, false}
use Rattle.wbt_journal.specs.declared.field.Field.{Field}
use Rattle.wbt_journal.specs.declared.field.Field.TheVariants.{Name, Int, Domain, Context}
use Rattle.wbt_journal.specs.declared.journal.Journal.{Journal}
use Rattle.wbt_journal.specs.declared.journal.Left.{Left}
use Rattle.wbt_journal.specs.Each.{Each}
use Rattle.wbt_journal.specs.Forms.{Form, small, big, signed, counter, name, IsOf, AreOf, forms_of, HasForm}
use Rattle.wbt_journal.specs.Leaves.{LeftFrom}
use Rattle.wbt_journal.specs.Line.{Line}
use Rattle.wbt_journal.specs.Plain.{Fits, LineFits, HasBits, IsPlain, TextFixesJournal}
use Rattle.wbt_journal.specs.PlainJournal.{IsPlainJournal}
use Rattle.wbt_journal.specs.Text.{journal_lines, journal_text}

fits_of : (form : Form) (field : Field) → IsOf form field → Fits field
fits_of small (Name word) h = absurd h
fits_of small (Int (pos n)) h = omega (arith, h)
fits_of small (Int (negsuc n)) h = absurd h
fits_of small (Domain d) h = absurd h
fits_of small (Context d) h = absurd h
fits_of big (Name word) h = absurd h
fits_of big (Int (pos n)) h = h
fits_of big (Int (negsuc n)) h = absurd h
fits_of big (Domain d) h = absurd h
fits_of big (Context d) h = absurd h
fits_of signed (Name word) h = absurd h
fits_of signed (Int (pos n)) h = omega (arith, h)
fits_of signed (Int (negsuc n)) h = omega (arith, h)
fits_of signed (Domain d) h = absurd h
fits_of signed (Context d) h = absurd h
fits_of counter (Name word) h = absurd h
fits_of counter (Int (pos n)) h = absurd h
fits_of counter (Int (negsuc n)) h = absurd h
fits_of counter (Domain d) h = omega (arith, h)
fits_of counter (Context d) h = omega (arith, h)
fits_of name (Name word) h = tt
fits_of name (Int (pos n)) h = absurd h
fits_of name (Int (negsuc n)) h = absurd h
fits_of name (Domain d) h = absurd h
fits_of name (Context d) h = absurd h

all_fit : (forms : List Form) (fields : List Field) → AreOf forms fields → Each Fits fields
all_fit [] [] h = tt
all_fit [] (x ∷ xs) h = absurd h
all_fit (form ∷ forms) [] h = absurd h
all_fit (form ∷ forms) (x ∷ xs) h = (fits_of form x h.0, all_fit forms xs h.1)

lines_fit : (lines : List Line) → Each HasForm lines → Each LineFits lines
lines_fit [] all = tt
lines_fit (l ∷ lines) all = (all_fit (forms_of l.word) l.fields all.0, lines_fit lines all.1)

have_bits : (page : ℕ) (lefts : List Left) → LeftFrom page lefts → Each HasBits lefts
have_bits page [] all = tt
have_bits page (left ∷ more) all = ((all.1, all.2), have_bits (left.page + 1) more all.3)

plain_by_rule : (j : Journal) → IsPlainJournal j → IsPlain (λ check. false) j
plain_by_rule j plain = record {
  steps = plain.steps;
  bases = plain.bases;
  homes = plain.homes;
  parts = plain.parts;
  left = have_bits 0 j.left plain.left;
  fits = lines_fit (journal_lines j) plain.forms;
}

pub plain_once : TextFixesJournal → (j k : Journal) → IsPlainJournal j → IsPlainJournal k → journal_text j ≡ journal_text k → j ≡ k
plain_once fixes j k a b same = fixes (λ check. false) j k (plain_by_rule j a) (plain_by_rule k b) same
