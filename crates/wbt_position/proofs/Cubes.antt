-- The third power of a distance fits 128 bits with room to spare. A number with a stroke is the same number, as it is
-- passed on.
use Rattle.std.proofs.Common.{◌≡◌, ◌+◌, ◌*◌, ◌/◌, ◌^◌, ◌≤◌, ℤ, ◌*ℤ◌, unsigned_abs, FitsSigned, arith, lit<}
use Rattle.std.specs.Int.{w128}
use Rattle.std.proofs.lemmas.Int.{fits_signed_mul}
use Rattle.std.proofs.lemmas.Nat.{mul-le}

square_small : (square x x' : ℤ) → x' ≡ x → unsigned_abs x ≤ 2 ^ 43
    → unsigned_abs square ≤ unsigned_abs x' * unsigned_abs x' / 1024 + 1 → unsigned_abs square ≤ 2 ^ 77
square_small square x x' e h k =
    omega (arith, rw e at k, mul-le (unsigned_abs x) (unsigned_abs x) (2 ^ 43) (2 ^ 43) h h)

pub cube_fits : (square x square' x' : ℤ) → square' ≡ square → x' ≡ x → unsigned_abs x ≤ 2 ^ 43
    → unsigned_abs square ≤ unsigned_abs x' * unsigned_abs x' / 1024 + 1 → FitsSigned w128 (square' *ℤ x')
cube_fits square x square' x' e f h k =
    rw (e, f) (fits_signed_mul w128 square x (2 ^ 77) (2 ^ 43) (square_small square x x' f h k) h (lit< tt))

pub cube_small : (cube square x cube' square' x' : ℤ) → cube' ≡ cube → square' ≡ square → x' ≡ x → unsigned_abs x ≤ 2 ^ 43
    → unsigned_abs square ≤ unsigned_abs x' * unsigned_abs x' / 1024 + 1
    → unsigned_abs cube ≤ unsigned_abs square' * unsigned_abs x' / 1024 + 1 → unsigned_abs cube' ≤ 2 ^ 120
cube_small cube square x cube' square' x' d e f h k m =
    rw d (omega (arith, rw (e, f) at m, mul-le (unsigned_abs square) (unsigned_abs x) (2 ^ 77) (2 ^ 43) (square_small square x x' f h k) h))
