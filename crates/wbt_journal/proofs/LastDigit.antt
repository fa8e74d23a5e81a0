-- The digits of a number, of which the last is put down first.
use Rattle.std.proofs.Common.{◌≡◌, ℕ, ◌+◌, ◌-◌, ◌/◌, ◌%◌, ◌^◌, ◌<◌, ◌≤◌, false, List, [], ◌∷◌, ◌++◌, length, drop, set, ℤ, pos, negsuc, int_le, unsigned_abs, sym, ◌∙◌, ap, arith, append_assoc, true≢false}
use Rattle.std.proofs.lemmas.Fmt.{decimal_digit, decimal_step_wide, length-decimal-le_wide}
use Rattle.std.proofs.lemmas.List.{length-append, drop-set}
use Rattle.std.specs.Fmt.{decimal, signed_decimal}
use lib.Dec.{leb-zero}

pub has_room : (n : ℕ) → n < 2 ^ 128 → length (decimal n) ≤ 39
has_room n small = length-decimal-le_wide 39 n (omega arith) (omega (arith, small)) (omega (arith, small))

pub has_short_room : (n : ℕ) → n < 2 ^ 64 → length (decimal n) ≤ 20
has_short_room n small = length-decimal-le_wide 20 n (omega arith) (omega (arith, small)) (omega (arith, small))

pub one_long : (n : ℕ) → n < 10 → length (decimal n) ≡ 1
one_long n small = ap length (decimal_digit n small)

pub one_longer : (n : ℕ) → 10 ≤ n → n < 2 ^ 128 → length (decimal n) ≡ length (decimal (n / 10)) + 1
one_longer n large small = ap length (decimal_step_wide n large (omega (arith, small))) ∙ length-append (decimal (n / 10)) ((48 + n % 10) ∷ [])

-- a byte in front of what stands at a place
put_down : (at byte : ℕ) (room : List ℕ) → 1 ≤ at → at ≤ length room → drop (at - 1) (set room (at - 1) byte) ≡ byte ∷ drop at room
put_down at byte room some within =
    let less : at - 1 < length room = omega (arith, some, within) in
    let next : at - 1 + 1 ≡ at = omega (arith, some) in
    drop-set room (at - 1) byte less ∙ ap (λ (n : ℕ). byte ∷ drop n room) next

-- the last digit of what is left is put down
pub one_more : (n at : ℕ) (room : List ℕ) → 10 ≤ n → n < 2 ^ 128 → 1 ≤ at → at ≤ length room
    → decimal (n / 10) ++ drop (at - 1) (set room (at - 1) (48 + n % 10)) ≡ decimal n ++ drop at room
one_more n at room large small some within =
    ap (λ rest. decimal (n / 10) ++ rest) (put_down at (48 + n % 10) room some within)
    ∙ sym (ap (λ ds. ds ++ drop at room) (decimal_step_wide n large (omega (arith, small))) ∙ append_assoc (decimal (n / 10)) ((48 + n % 10) ∷ []) (drop at room))

-- the first digit is
pub the_first : (n at : ℕ) (room : List ℕ) → n < 10 → 1 ≤ at → at ≤ length room → drop (at - 1) (set room (at - 1) (48 + n)) ≡ decimal n ++ drop at room
the_first n at room small some within = put_down at (48 + n) room some within ∙ sym (ap (λ ds. ds ++ drop at room) (decimal_digit n small))

-- the sign stands before the digits of a number below zero
pub below_zero : (z : ℤ) (n : ℕ) → int_le (pos 0) z ≡ false → n ≡ unsigned_abs z → 45 ∷ decimal n ≡ signed_decimal z
below_zero (pos m) n below is = absurd (true≢false (sym (leb-zero m) ∙ below))
below_zero (negsuc m) n below is = ap (λ (k : ℕ). 45 ∷ decimal k) is
