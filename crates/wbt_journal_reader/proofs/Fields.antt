-- Fields and the spaces between them.
use Rattle.std.proofs.Common.{◌≡◌, ℕ, ◌^◌, ◌<◌, suc, pos, negsuc, List, [], ◌∷◌, ◌++◌, refl, sym, ◌∙◌, arith, decimal}
use Rattle.wbt_text.specs.Cut.{Without}
use Rattle.wbt_text.proofs.Cuts.{cut_once, no_cut}
use Rattle.wbt_journal.specs.declared.word.Word.{Word}
use Rattle.wbt_journal.specs.declared.field.Field.{Field}
use Rattle.wbt_journal.specs.declared.field.Field.TheVariants.{Name, Int, Domain, Context}
use Rattle.wbt_journal_reader.specs.Fields.{InRange, IsField, spaced, AreFields, IsNumber}
use Rattle.wbt_journal.specs.Line.{field_text}
use Rattle.wbt_journal.specs.Plain.{Fits}
use Rattle.wbt_journal.specs.Word.{word_text}
use Rattle.wbt_journal.proofs.OneWord.{From}
use Rattle.wbt_journal.proofs.OneField.{field_solid, field_once}

pub fits : (f : Field) → InRange f → Fits f
fits (Name w) range = tt
fits (Int (pos n)) range = range
fits (Int (negsuc n)) range = omega (arith, range)
fits (Domain n) range = omega (arith, range)
fits (Context n) range = omega (arith, range)

pub once : (text : List ℕ) (f g : Field) → IsField text f → IsField text g → f ≡ g
once text f g p q = field_once f g (fits f p.0) (fits g q.0) (sym p.1 ∙ q.1)

solid_without : (byte : ℕ) (xs : List ℕ) → byte < 33 → From 33 xs → Without byte xs
solid_without byte [] low all = tt
solid_without byte (x ∷ xs) low all = ((λ same. omega (arith, low, all.0, same)), solid_without byte xs low all.1)

pub field_without : (byte : ℕ) (f : Field) → byte < 33 → InRange f → Without byte (field_text f)
field_without byte f low range = solid_without byte (field_text f) low (field_solid f (fits f range))

-- a text is that of no field: it is no number, no word, no number below zero and no counter
pub no_field : (text : List ℕ) → ((n : ℕ) → IsNumber text n → ⊥) → ((w : Word) → text ≡ word_text w → ⊥)
    → ((n : ℕ) → n < 2 ^ 63 → text ≡ 45 ∷ decimal (suc n) → ⊥) → ((n : ℕ) → n < 2 ^ 32 → text ≡ 100 ∷ decimal n → ⊥) → ((n : ℕ) → n < 2 ^ 32 → text ≡ 99 ∷ decimal n → ⊥)
    → (f : Field) → IsField text f → ⊥
no_field text number word below domain context (Name w) is = word w is.1
no_field text number word below domain context (Int (pos n)) is = number n is
no_field text number word below domain context (Int (negsuc n)) is = below n is.0 is.1
no_field text number word below domain context (Domain n) is = domain n is.0 is.1
no_field text number word below domain context (Context n) is = context n is.0 is.1

-- ---- spaces

pub one_more : (f : Field) (rest first more : List ℕ) (gs : List Field) → IsField first f → rest ≡ first ++ 32 ∷ more → AreFields more gs → AreFields rest (f ∷ gs)
one_more f rest first more [] is split are = absurd are
one_more f rest first more (g ∷ gs) is split are = ((is.0, are.0), split ∙ (λ i. is.1 i ++ 32 ∷ are.1 i))

-- the first field of a text that is cut, and the others
pub record Parts (first more : List ℕ) (fs : List Field) : Type 0 where
  pub f : Field
  pub gs : List Field
  pub is : IsField first f
  pub others : AreFields more gs
  pub all : fs ≡ f ∷ gs

pub only_more : (rest first more : List ℕ) (fs : List Field) → rest ≡ first ++ 32 ∷ more → Without 32 first → AreFields rest fs → Parts first more fs
only_more rest first more [] split no_space are = absurd are
only_more rest first more (f ∷ []) split no_space are =
    absurd (no_cut 32 (field_text f) first more (field_without 32 f (omega arith) are.0.0) (sym are.1 ∙ split))
only_more rest first more (f ∷ g ∷ gs) split no_space are =
    let cut = cut_once 32 first (field_text f) more (spaced g gs) no_space (field_without 32 f (omega arith) are.0.0) (sym split ∙ are.1) in
    record { f = f; gs = g ∷ gs; is = (are.0.0, cut.0); others = (are.0.1, cut.1); all = refl }

pub record Last (rest : List ℕ) (fs : List Field) : Type 0 where
  pub f : Field
  pub is : IsField rest f
  pub all : fs ≡ f ∷ []

pub only_last : (rest : List ℕ) (fs : List Field) → Without 32 rest → AreFields rest fs → Last rest fs
only_last rest [] no_space are = absurd are
only_last rest (f ∷ []) no_space are = record { f = f; is = (are.0.0, are.1); all = refl }
only_last rest (f ∷ g ∷ gs) no_space are = absurd (no_cut 32 rest (field_text f) (spaced g gs) no_space are.1)
