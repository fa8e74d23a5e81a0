-- `n | 1` is n, or one more where n is even.
use Rattle.std.proofs.Common.{◌≡◌, ℕ, ◌+◌, ◌*◌, ◌/◌, ◌%◌, ◌<◌, ◌≤◌, bit_or, bit_and, refl, ap, arith, zero, suc}
use Rattle.std.proofs.lemmas.Nat.{or_block, or_disjoint, and_le_r, le_or_l, le_or_r, div-add-mod'}

low : (r : ℕ) → r < 2 → bit_or r 1 ≡ 1
low zero h = refl
low (suc zero) h = refl
low (suc (suc r)) h = absurd (omega arith)

high : (n : ℕ) → bit_or n 0 ≡ n
high n =
    let apart : bit_and n 0 ≡ 0 = omega (arith, and_le_r n 0) in
    omega (arith, or_disjoint n 0 apart)

pub odd_is : (n : ℕ) → bit_or n 1 ≡ n / 2 * 2 + 1
odd_is n =
    let below : n % 2 < 2 = omega arith in
    let split : n / 2 * 2 + n % 2 ≡ n = div-add-mod' n 2 in
    let block : bit_or (n / 2 * 2 + n % 2) 1 ≡ bit_or (n / 2) 0 * 2 + bit_or (n % 2) 1 = or_block 1 (n / 2) 0 (n % 2) 1 below (omega arith) in
    omega (arith, ap (λ k. bit_or k 1) split, block, low (n % 2) below, high (n / 2))

pub odd_above : (n : ℕ) → (bit_or n 1 ≡ bit_or n 1) × (n ≤ bit_or n 1)
odd_above n = (refl, le_or_l n 1)

pub odd_below : (n : ℕ) → (bit_or n 1 ≡ bit_or n 1) × (1 ≤ bit_or n 1) × (bit_or n 1 ≤ n + 1)
odd_below n = (refl, le_or_r n 1, omega (arith, odd_is n))
