-- A field is fixed by its text.
use Rattle.std.proofs.Common.{◌≡◌, ℕ, ◌^◌, ◌<◌, ◌≤◌, suc, pos, negsuc, List, [], ◌∷◌, length, sym, ap, subst, arith, decimal, inl, inr, ◌⊎◌}
use Rattle.std.specs.Str.Parse.{AllDigits}
use Rattle.std.proofs.lemmas.Str.Parse.{digit_from_value}
use Rattle.std.proofs.lemmas.Fmt.{decimal_injective, decimal_is_IsNumeral, decimal_nonempty}
use Rattle.wbt_journal.specs.declared.word.Word.{Word}
use Rattle.wbt_journal.specs.declared.field.Field.{Field}
use Rattle.wbt_journal.specs.declared.field.Field.TheVariants.{Name, Int, Domain, Context}
use Rattle.wbt_journal.specs.Word.{word_text}
use Rattle.wbt_journal.specs.Line.{field_text}
use Rattle.wbt_journal.specs.Plain.{Fits}
use Rattle.wbt_journal.proofs.OneWord.{From, letters, lower, word_once}

abbrev Digits : List ℕ → Type 0
Digits [] = Unit {0}
Digits (x ∷ xs) = (48 ≤ x) × (x ≤ 57) × Digits xs

digits_from : (ds : List ℕ) → AllDigits 10 ds → Digits ds
digits_from [] all = tt
digits_from (c ∷ cs) all = let d = digit_from_value c all.0 in (omega (arith, d), omega (arith, d), digits_from cs all.1)

digits_of : (n : ℕ) → n < 2 ^ 64 → Digits (decimal n)
digits_of n small = digits_from (decimal n) (decimal_is_IsNumeral n small).0.1

digits_solid : (ds : List ℕ) → Digits ds → From 33 ds
digits_solid [] all = tt
digits_solid (c ∷ cs) all = (omega (arith, all.0), digits_solid cs all.2)

no_letters : (ds : List ℕ) → 0 < length ds → Digits ds → From 97 ds → ⊥
no_letters [] some all letter = omega (arith, some)
no_letters (c ∷ cs) some all letter = omega (arith, all.1, letter.0)

-- a number's text isn't one with a byte that is no digit in front
no_front : (ds es : List ℕ) (x : ℕ) → (x < 48) ⊎ (57 < x) → Digits ds → ds ≡ x ∷ es → ⊥
no_front [] es x out all is = cc
no_front (c ∷ cs) es x out all is = let same : c ≡ x = cc in elim out [
  | inl low ↦ omega (arith, low, all.0, same)
  | inr high ↦ omega (arith, high, all.1, same)
]

word_number : (a : Word) (n : ℕ) → n < 2 ^ 64 → word_text a ≡ decimal n → ⊥
word_number a n small is = no_letters (decimal n) (decimal_nonempty n small) (digits_of n small) (subst (From 97) is (letters a))

word_front : (a : Word) (n x : ℕ) → n < 2 ^ 64 → word_text a ≡ x ∷ decimal n → ⊥
word_front a n x small is = no_letters (decimal n) (decimal_nonempty n small) (digits_of n small) (subst (From 97) is (letters a)).1

number_front : (m n x : ℕ) → m < 2 ^ 64 → (x < 48) ⊎ (57 < x) → decimal m ≡ x ∷ decimal n → ⊥
number_front m n x small out is = no_front (decimal m) (decimal n) x out (digits_of m small) is

same_head : (x y : ℕ) (xs ys : List ℕ) → x ∷ xs ≡ y ∷ ys → x ≡ y
same_head x y xs ys is = cc

same_tail : (x y : ℕ) (xs ys : List ℕ) → x ∷ xs ≡ y ∷ ys → xs ≡ ys
same_tail x y xs ys is = cc

fronts : (x y : ℕ) (xs ys : List ℕ) → (x < y) ⊎ (y < x) → x ∷ xs ≡ y ∷ ys → ⊥
fronts x y xs ys out is = let same = same_head x y xs ys is in elim out [
  | inl low ↦ omega (arith, low, same)
  | inr high ↦ omega (arith, high, same)
]

pub field_solid : (f : Field) → Fits f → From 33 (field_text f)
field_solid (Name a) fits = lower 33 97 (word_text a) (omega arith) (letters a)
field_solid (Int (pos n)) fits = digits_solid (decimal n) (digits_of n fits)
field_solid (Int (negsuc n)) fits = (omega arith, digits_solid (decimal (suc n)) (digits_of (suc n) (omega (arith, fits))))
field_solid (Domain n) fits = (omega arith, digits_solid (decimal n) (digits_of n fits))
field_solid (Context n) fits = (omega arith, digits_solid (decimal n) (digits_of n fits))

suc_once : (m n : ℕ) → suc m ≡ suc n → m ≡ n
suc_once m n is = omega (arith, is)

pub field_once : (f g : Field) → Fits f → Fits g → field_text f ≡ field_text g → f ≡ g
field_once (Name m) (Name n) f g is = ap Name (word_once m n is)
field_once (Name m) (Int (pos n)) f g is = absurd (word_number m n g is)
field_once (Name m) (Int (negsuc n)) f g is = absurd (word_front m (suc n) 45 (omega (arith, g)) is)
field_once (Name m) (Domain n) f g is = absurd (word_front m n 100 g is)
field_once (Name m) (Context n) f g is = absurd (word_front m n 99 g is)
field_once (Int (pos m)) (Name n) f g is = absurd (word_number n m f (sym is))
field_once (Int (pos m)) (Int (pos n)) f g is = ap (λ k. Int (pos k)) (decimal_injective m n f g is)
field_once (Int (pos m)) (Int (negsuc n)) f g is = absurd (number_front m (suc n) 45 f (inl (omega arith)) is)
field_once (Int (pos m)) (Domain n) f g is = absurd (number_front m n 100 f (inr (omega arith)) is)
field_once (Int (pos m)) (Context n) f g is = absurd (number_front m n 99 f (inr (omega arith)) is)
field_once (Int (negsuc m)) (Name n) f g is = absurd (word_front n (suc m) 45 (omega (arith, f)) (sym is))
field_once (Int (negsuc m)) (Int (pos n)) f g is = absurd (number_front n (suc m) 45 g (inl (omega arith)) (sym is))
field_once (Int (negsuc m)) (Int (negsuc n)) f g is = ap (λ k. Int (negsuc k)) (suc_once m n (decimal_injective (suc m) (suc n) (omega (arith, f)) (omega (arith, g)) (same_tail 45 45 (decimal (suc m)) (decimal (suc n)) is)))
field_once (Int (negsuc m)) (Domain n) f g is = absurd (fronts 45 100 (decimal (suc m)) (decimal n) (inl (omega arith)) is)
field_once (Int (negsuc m)) (Context n) f g is = absurd (fronts 45 99 (decimal (suc m)) (decimal n) (inl (omega arith)) is)
field_once (Domain m) (Name n) f g is = absurd (word_front n m 100 f (sym is))
field_once (Domain m) (Int (pos n)) f g is = absurd (number_front n m 100 g (inr (omega arith)) (sym is))
field_once (Domain m) (Int (negsuc n)) f g is = absurd (fronts 100 45 (decimal m) (decimal (suc n)) (inr (omega arith)) is)
field_once (Domain m) (Domain n) f g is = ap Domain (decimal_injective m n f g (same_tail 100 100 (decimal m) (decimal n) is))
field_once (Domain m) (Context n) f g is = absurd (fronts 100 99 (decimal m) (decimal n) (inr (omega arith)) is)
field_once (Context m) (Name n) f g is = absurd (word_front n m 99 f (sym is))
field_once (Context m) (Int (pos n)) f g is = absurd (number_front n m 99 g (inr (omega arith)) (sym is))
field_once (Context m) (Int (negsuc n)) f g is = absurd (fronts 99 45 (decimal m) (decimal (suc n)) (inr (omega arith)) is)
field_once (Context m) (Domain n) f g is = absurd (fronts 99 100 (decimal m) (decimal n) (inl (omega arith)) is)
field_once (Context m) (Context n) f g is = ap Context (decimal_injective m n f g (same_tail 99 99 (decimal m) (decimal n) is))
