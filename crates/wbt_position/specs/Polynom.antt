-- The position polynomial, on the scale 1024: 1024 at the setpoint, at most 2048, and the less the nearer the limit. It need
-- not be 0 there: where an even number of pages lies between setpoint and limit, the rounding leaves some, 721 of two pages.
use Rattle.std.specs.Prelude.{ℕ, ◌-◌, min, bit_or, ℤ, pos, negsuc, ◌+ℤ◌, ◌-ℤ◌, ◌*ℤ◌, int_div}
use Rattle.wbt_num.specs.Arithmetic.{floor_quotient}

-- how far dirty pages lie below the setpoint, in 1024ths of the way from it to the limit, rounded toward zero;
-- negative above the setpoint
abbrev pub distance : (setpoint dirty limit : ℕ) → ℤ
distance setpoint dirty limit =
    int_div ((pos setpoint -ℤ pos dirty) *ℤ pos 1024) (pos (bit_or (limit - setpoint) 1))

-- a product on the scale 1024, rounded down also below zero
abbrev pub scaled : (p x : ℤ) → ℤ
scaled p x = floor_quotient (p *ℤ x) 1024

-- at least 0 and at most 2048
abbrev pub between_0_and_2048 : (number : ℤ) → ℕ
between_0_and_2048 (pos n) = min n 2048
between_0_and_2048 (negsuc _) = 0

-- 1024 and the third power, cut
abbrev pub cut : (cube : ℤ) → ℕ
cut cube = between_0_and_2048 (cube +ℤ pos 1024)

-- 1024 and the third power of the distance
unfoldable pub polynom_value : (setpoint dirty limit : ℕ) → ℕ
polynom_value setpoint dirty limit =
    let x = distance setpoint dirty limit in
    cut (scaled (scaled x x) x)
