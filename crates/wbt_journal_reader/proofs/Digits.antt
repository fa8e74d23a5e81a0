-- Numbers of 64 bits and their digits.
use Rattle.std.proofs.Common.{◌≡◌, ℕ, ◌^◌, ◌<◌, ◌≤◌, List, length, get_or, sym, ◌∙◌, ap, arith, decimal, inl, inr}
use Rattle.std.specs.Str.Parse.{AllDigits, digits_value}
use Rattle.std.proofs.lemmas.Bool.{cases_eq}
use Rattle.std.proofs.lemmas.Fmt.{decimal-digits_value, decimal_is_IsNumeral, decimal_digit, decimal_injective, length-decimal-le, first_decimal}
use Rattle.wbt_text.specs.Cut.{Without}
use Rattle.wbt_text.proofs.Decimals.{own, without_digits}
use Rattle.wbt_journal_reader.specs.Fields.{IsNumber}

pub all_digits : (n : ℕ) → n < 2 ^ 64 → AllDigits 10 (decimal n)
all_digits n small = (decimal_is_IsNumeral n small).0.1

pub few_digits : (n : ℕ) → n < 2 ^ 64 → length (decimal n) ≤ 20
few_digits n small = length-decimal-le 20 n (omega arith) (omega (arith, small)) small

pub no_leading : (n : ℕ) → n < 2 ^ 64 → get_or (decimal n) 0 0 ≡ 48 → length (decimal n) ≡ 1
no_leading n small lead = elim (cases_eq n 0) [
  | inl none ↦ ap (λ k. length (decimal k)) none ∙ ap length (decimal_digit 0 (omega arith))
  | inr some ↦ absurd (omega (arith, first_decimal n (omega arith) small))
]

pub found : (ds : List ℕ) → AllDigits 10 ds → 0 < length ds → (get_or ds 0 0 ≡ 48 → length ds ≡ 1) → digits_value 10 ds < 2 ^ 64 → IsNumber ds (digits_value 10 ds)
found ds all some lead small = (small, sym (decimal-digits_value own ds all some lead small))

pub without_number : (byte n : ℕ) → byte < 48 → n < 2 ^ 64 → Without byte (decimal n)
without_number byte n low small = without_digits byte (decimal n) low (all_digits n small)

-- what the digits of a number say
pub value_of_number : (ds : List ℕ) (n : ℕ) → IsNumber ds n → digits_value 10 ds ≡ n
value_of_number ds n is = ap (digits_value 10) is.1 ∙ (decimal_is_IsNumeral n is.0).1

pub number_once : (ds : List ℕ) (m n : ℕ) → IsNumber ds m → n < 2 ^ 64 → ds ≡ decimal n → m ≡ n
number_once ds m n is small other = decimal_injective m n is.0 small (sym is.1 ∙ other)
