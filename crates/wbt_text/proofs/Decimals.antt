-- Numbers and their digits.
use Rattle.std.proofs.Common.{◌≡◌, ℕ, ◌-◌, ◌<◌, ◌≤◌, true, false, ltb, List, [], ◌∷◌, length, get_or, refl, sym, ◌∙◌, ap, subst, arith, decimal, inl, inr, Option, Some, None, IfSome, IfNone}
use Rattle.std.specs.Str.Parse.{AllDigits, digits_value}
use Rattle.std.specs.Char.{digit_value}
use Rattle.std.proofs.lemmas.Bool.{cases_eq}
use Rattle.std.proofs.lemmas.Bool.Decides.{nat_tests}
use Rattle.std.proofs.lemmas.Str.Parse.{IsNumeralModel, numerals_by_value, tells_digits, digit_at, digit_from_value, digits_value_short}
use Rattle.std.proofs.lemmas.Fmt.{decimal-digits_value, decimal_is_IsNumeral, decimal_digit, decimal_nonempty, length-decimal-le, first_decimal}
use Rattle.wbt_text.specs.Cut.{Without, IsDigit}
use Rattle.wbt_text.specs.Numbers.{IsShort, IsNumber}
use Rattle.wbt_text.specs.declared.digits.TheConstants.{MOST_DIGITS}

pub own : IsNumeralModel (AllDigits 10) (digits_value 10)
own = numerals_by_value (AllDigits 10) tells_digits

pub digit_is : (c : ℕ) → 48 ≤ c → c ≤ 57 → digit_value c ≡ c - 48
digit_is c low high =
    let a : ltb c 48 ≡ false = grind (arith, nat_tests) in
    let b : ltb c 58 ≡ true = grind (arith, nat_tests) in
    rw (a, b) refl

pub not_digit : (ds : List ℕ) (i : ℕ) → i < length ds → AllDigits 10 ds → (48 ≤ get_or ds i 0) × (get_or ds i 0 ≤ 57)
not_digit ds i less all = let d = digit_at ds i all less in (omega (arith, d), omega (arith, d))

pub found : (ds : List ℕ) → AllDigits 10 ds → 0 < length ds → length ds ≤ MOST_DIGITS → (get_or ds 0 0 ≡ 48 → length ds ≡ 1) → IsShort (digits_value 10 ds) × (ds ≡ decimal (digits_value 10 ds))
found ds all some few lead =
    let small : IsShort (digits_value 10 ds) = digits_value_short own ds MOST_DIGITS all few in
    (small, sym (decimal-digits_value own ds all some lead (omega arith)))

pub all_digits : (n : ℕ) → IsShort n → AllDigits 10 (decimal n)
all_digits n small = (decimal_is_IsNumeral n (omega arith)).0.1

pub some_digits : (n : ℕ) → IsShort n → 0 < length (decimal n)
some_digits n small = decimal_nonempty n (omega arith)

pub few_digits : (n : ℕ) → IsShort n → length (decimal n) ≤ MOST_DIGITS
few_digits n small = length-decimal-le MOST_DIGITS n (omega arith) small (omega arith)

pub no_leading : (n : ℕ) → IsShort n → get_or (decimal n) 0 0 ≡ 48 → length (decimal n) ≡ 1
no_leading n small lead = elim (cases_eq n 0) [
  | inl none ↦ ap (λ k. length (decimal k)) none ∙ ap length (decimal_digit 0 (omega arith))
  | inr some ↦ absurd (omega (arith, first_decimal n (omega arith) (omega arith)))
]

pub found_of : (r : Option ℕ) (ds : List ℕ) → 0 < length ds → length ds ≤ MOST_DIGITS → (get_or ds 0 0 ≡ 48 → length ds ≡ 1) → IfSome r (λ n. AllDigits 10 ds × (n ≡ digits_value 10 ds)) → IfSome r (λ n. IsNumber ds n)
found_of None ds some few lead is = is
found_of (Some n) ds some few lead is = let f = found ds is.0 some few lead in (omega (arith, f.0, is.1), f.1 ∙ ap decimal (sym is.1))

pub none_of : (r : Option ℕ) (ds : List ℕ) → IfNone r (AllDigits 10 ds → ⊥) → IfNone r ((n : ℕ) → IsNumber ds n → ⊥)
none_of (Some n) ds is = is
none_of None ds is = λ n number. is (subst (AllDigits 10) (sym number.1) (all_digits n number.0))

pub without_digits : (byte : ℕ) (ds : List ℕ) → byte < 48 → AllDigits 10 ds → Without byte ds
without_digits byte [] low all = tt
without_digits byte (c ∷ cs) low all = let d = digit_from_value c all.0 in (λ same. omega (arith, d, same), without_digits byte cs low all.1)

pub without_decimal : (byte n : ℕ) → byte < 48 → IsShort n → Without byte (decimal n)
without_decimal byte n low small = without_digits byte (decimal n) low (all_digits n small)

-- a number begins with a digit
pub decimal_begins : (n : ℕ) → IsShort n → (c : ℕ) × (more : List ℕ) × (decimal n ≡ c ∷ more) × IsDigit c
decimal_begins n small = begins (decimal n) (some_digits n small) (all_digits n small)
  where
    begins : (ds : List ℕ) → 0 < length ds → AllDigits 10 ds → (c : ℕ) × (more : List ℕ) × (ds ≡ c ∷ more) × IsDigit c
    begins [] some all = absurd (omega arith)
    begins (c ∷ cs) some all = (c, cs, refl, not_digit (c ∷ cs) 0 some all)
