-- Quotients are monotone, also those of signed numbers.
use Rattle.std.proofs.Common.{ℕ, zero, suc, ◌/◌, ◌<◌, ◌≤◌, ℤ, pos, negsuc, neg_ℤ, ◌≤ℤ◌, arith}
use Rattle.std.specs.Prelude.{int_div}
use Rattle.std.proofs.lemmas.Int.{ints}
use Rattle.std.proofs.lemmas.Nat.{le-div}
use Rattle.std.proofs.Math.Nat.{div-mul-le_self}
use Rattle.wbt_num.specs.Arithmetic.{floor_quotient}

pub div_le : (a b d : ℕ) → 0 < d → a ≤ b → a / d ≤ b / d
div_le a b d some h = le-div (a / d) b d some (omega (arith, div-mul-le_self a d))

pub neg_le : (a b : ℕ) → b ≤ a → neg_ℤ (pos a) ≤ℤ neg_ℤ (pos b)
neg_le zero zero h = omega (arith, ints)
neg_le zero (suc b) h = absurd (omega arith)
neg_le (suc a) zero h = omega (arith, ints)
neg_le (suc a) (suc b) h = omega (arith, ints)

pub neg_low : (a b : ℕ) → neg_ℤ (pos a) ≤ℤ pos b
neg_low zero b = omega (arith, ints)
neg_low (suc a) b = omega (arith, ints)

pub floor_le : (a b : ℤ) (d : ℕ) → 0 < d → a ≤ℤ b → floor_quotient a d ≤ℤ floor_quotient b d
floor_le (pos a) (pos b) d some h = omega (arith, ints, div_le a b d some (omega (arith, ints)))
floor_le (pos a) (negsuc b) d some h = absurd (omega (arith, ints))
floor_le (negsuc a) (pos b) d some h = omega (arith, ints)
floor_le (negsuc a) (negsuc b) d some h = omega (arith, ints, div_le b a d some (omega (arith, ints)))

pub toward_zero_le : (a b : ℤ) (d : ℕ) → 0 < d → a ≤ℤ b → int_div a (pos d) ≤ℤ int_div b (pos d)
toward_zero_le (pos a) (pos b) d some h = omega (arith, ints, div_le a b d some (omega (arith, ints)))
toward_zero_le (pos a) (negsuc b) d some h = absurd (omega (arith, ints))
toward_zero_le (negsuc a) (pos b) d some h = neg_low (suc a / d) (b / d)
toward_zero_le (negsuc a) (negsuc b) d some h = neg_le (suc a / d) (suc b / d) (div_le (suc b) (suc a) d some (omega (arith, ints)))
