-- The polynomial never rises with dirty pages: each part of it is monotone, also below zero.
use Rattle.std.proofs.Common.{ℕ, suc, ◌-◌, ◌*◌, ◌/◌, ◌≤◌, bit_or, ℤ, pos, negsuc, neg_ℤ, ◌+ℤ◌, ◌-ℤ◌, ◌*ℤ◌, ◌≤ℤ◌, arith}
use Rattle.std.proofs.lemmas.Int.{ints}
use Rattle.std.proofs.lemmas.Nat.{le_or_r, mul-le}
use Rattle.wbt_position.specs.Laws.{PolynomNeverRises}
use Rattle.wbt_position.specs.Polynom.{between_0_and_2048, cut, distance, polynom_value, scaled}
use Rattle.wbt_position.proofs.Quotients.{div_le, floor_le, neg_le, neg_low, toward_zero_le}

distance_le : (setpoint limit dirty more : ℕ) → dirty ≤ more → distance setpoint more limit ≤ℤ distance setpoint dirty limit
distance_le setpoint limit dirty more h =
    toward_zero_le ((pos setpoint -ℤ pos more) *ℤ pos 1024) ((pos setpoint -ℤ pos dirty) *ℤ pos 1024) (bit_or (limit - setpoint) 1)
    (omega (arith, le_or_r (limit - setpoint) 1)) (omega (arith, ints))

-- the third power on the scale 1024
abbrev cube : (x : ℤ) → ℤ
cube x = scaled (scaled x x) x

product_le : (a b : ℕ) → a ≤ b → a * a / 1024 * a ≤ b * b / 1024 * b
product_le a b h = mul-le (a * a / 1024) a (b * b / 1024) b (div_le (a * a) (b * b) 1024 (omega arith) (mul-le a a b b h h)) h

cube_le : (x y : ℤ) → x ≤ℤ y → cube x ≤ℤ cube y
cube_le (pos a) (pos b) h =
    floor_le (pos (a * a / 1024 * a)) (pos (b * b / 1024 * b)) 1024 (omega arith) (omega (arith, ints, product_le a b (omega (arith, ints))))
cube_le (pos a) (negsuc b) h = absurd (omega (arith, ints))
cube_le (negsuc a) (pos b) h =
    floor_le (neg_ℤ (pos (suc a * suc a / 1024 * suc a))) (pos (b * b / 1024 * b)) 1024 (omega arith) (neg_low (suc a * suc a / 1024 * suc a) (b * b / 1024 * b))
cube_le (negsuc a) (negsuc b) h =
    let less : suc b ≤ suc a = omega (arith, ints) in
    floor_le (neg_ℤ (pos (suc a * suc a / 1024 * suc a))) (neg_ℤ (pos (suc b * suc b / 1024 * suc b))) 1024 (omega arith)
    (neg_le (suc a * suc a / 1024 * suc a) (suc b * suc b / 1024 * suc b) (product_le (suc b) (suc a) less))

between_le : (a b : ℤ) → a ≤ℤ b → between_0_and_2048 a ≤ between_0_and_2048 b
between_le (pos a) (pos b) h = omega (arith, ints)
between_le (pos a) (negsuc b) h = absurd (omega (arith, ints))
between_le (negsuc a) b h = omega arith

cut_le : (a b : ℤ) → a ≤ℤ b → cut a ≤ cut b
cut_le a b h = between_le (a +ℤ pos 1024) (b +ℤ pos 1024) (omega (arith, ints))

pub polynom_never_rises : PolynomNeverRises
unfolding polynom_value
polynom_never_rises setpoint limit dirty more h =
    cut_le (cube (distance setpoint more limit)) (cube (distance setpoint dirty limit))
    (cube_le (distance setpoint more limit) (distance setpoint dirty limit) (distance_le setpoint limit dirty more h))
