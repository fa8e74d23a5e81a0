-- The ratio never rises with the context's pages: the line falls, and so does what is added near empty.
use Rattle.std.proofs.Common.{ℕ, ◌+◌, ◌-◌, ◌*◌, ◌/◌, ◌<◌, ◌≤◌, bit_or, Bool, true, false, cond, ltb, leb, arith}
use Rattle.std.proofs.lemmas.Bool.Decides.{nat_tests}
use Rattle.std.proofs.lemmas.Nat.{le-div, mul-le}
use Rattle.std.proofs.Math.Nat.{div-le_of_le-mul, div-mul-le_self, mul-le-mul_left, mul-le-mul_right}
use Rattle.wbt_limits.specs.Limits.{setpoint}
use Rattle.wbt_position.specs.Laws.{PositionNeverRises}
use Rattle.wbt_position.specs.Position.{bent, near_empty, on_line, position_ratio}
use Rattle.wbt_position.proofs.LowestBit.{odd_below}
use Rattle.wbt_position.proofs.Quotients.{div_le}

-- ---- the line

-- before its last quarter the line is at least at a quarter of p; `way` is the span, made odd
line_above : (p rest span way : ℕ) → 1 ≤ way → way ≤ span + 1 → span / 4 < rest → p / 4 ≤ p * rest / way
line_above p rest span way some most h =
    le-div (p / 4) (p * rest) way (omega arith)
    (omega (arith, mul-le (p / 4) way (p / 4) (4 * rest) (omega arith) (omega arith), mul-le-mul_right rest (div-mul-le_self p 4)))

on_line_choice : (more wb_dirty last then_less then_more quarter : ℕ) → wb_dirty ≤ more → then_more ≤ then_less → (wb_dirty < last → quarter ≤ then_less)
    → cond (ltb more last) then_more quarter ≤ cond (ltb wb_dirty last) then_less quarter
on_line_choice more wb_dirty last then_less then_more quarter h falls above = grind (arith, nat_tests)

on_line_falls : (p setpoint span wb_dirty more : ℕ) → wb_dirty ≤ more → on_line p setpoint span more ≤ on_line p setpoint span wb_dirty
on_line_falls p setpoint span wb_dirty more h =
    let end : ℕ = setpoint + span in
    let way : ℕ = bit_or (end - setpoint) 1 in
    let odd = odd_below (end - setpoint) in
    let falls : p * (end - more) / way ≤ p * (end - wb_dirty) / way =
    div_le (p * (end - more)) (p * (end - wb_dirty)) way (omega (arith, odd.1)) (mul-le-mul_left p (omega arith)) in
    let above : wb_dirty < end - span / 4 → p / 4 ≤ p * (end - wb_dirty) / way =
    λ before. line_above p (end - wb_dirty) span way odd.1 (omega (arith, odd.2)) (omega arith) in
    on_line_choice more wb_dirty (end - span / 4) (p * (end - wb_dirty) / way) (p * (end - more) / way) (p / 4) h falls above

-- ---- near empty

-- with few pages the ratio is at most eight times, and at least once
at_most_eight : (p half wb_dirty : ℕ) → half / 8 < wb_dirty → p * half / wb_dirty ≤ p * 8
at_most_eight p half wb_dirty h =
    let most : half ≤ 8 * wb_dirty = omega arith in
    div-le_of_le-mul wb_dirty (omega (arith, mul-le-mul_left p most))

at_least_once : (p half wb_dirty : ℕ) → 0 < wb_dirty → wb_dirty ≤ half → p ≤ p * half / wb_dirty
at_least_once p half wb_dirty some h = le-div p (p * half) wb_dirty some (mul-le-mul_left p h)

-- the more pages divide, the less comes out
divided_falls : (n wb_dirty more : ℕ) → 0 < wb_dirty → wb_dirty ≤ more → n / more ≤ n / wb_dirty
divided_falls n wb_dirty more some h =
    le-div (n / more) n wb_dirty some (omega (arith, mul-le-mul_left (n / more) h, div-mul-le_self n more))

near_empty_choice : (p half eighth wb_dirty more then_less then_more : ℕ) → wb_dirty ≤ more
    → (eighth < wb_dirty → then_more ≤ then_less) → (eighth < more → then_more ≤ p * 8) → (eighth < wb_dirty → wb_dirty < half → p ≤ then_less)
    → cond (ltb more half) (cond (ltb eighth more) then_more (p * 8)) p ≤ cond (ltb wb_dirty half) (cond (ltb eighth wb_dirty) then_less (p * 8)) p
near_empty_choice p half eighth wb_dirty more then_less then_more h falls most least = grind (arith, nat_tests)

near_empty_falls : (p half wb_dirty more : ℕ) → wb_dirty ≤ more → near_empty p half more ≤ near_empty p half wb_dirty
near_empty_falls p half wb_dirty more h =
    near_empty_choice p half (half / 8) wb_dirty more (p * half / wb_dirty) (p * half / more) h
    (λ some. divided_falls (p * half) wb_dirty more (omega arith) h)
    (λ some. at_most_eight p half more some)
    (λ some below. at_least_once p half wb_dirty (omega arith) (omega arith))

near_empty_same : (p q half eighth wb_dirty then_p then_q : ℕ) → p ≤ q → (eighth < wb_dirty → then_p ≤ then_q)
    → cond (ltb wb_dirty half) (cond (ltb eighth wb_dirty) then_p (p * 8)) p ≤ cond (ltb wb_dirty half) (cond (ltb eighth wb_dirty) then_q (q * 8)) q
near_empty_same p q half eighth wb_dirty then_p then_q h rises = grind (arith, nat_tests)

near_empty_le : (p q half wb_dirty : ℕ) → p ≤ q → near_empty p half wb_dirty ≤ near_empty q half wb_dirty
near_empty_le p q half wb_dirty h =
    near_empty_same p q half (half / 8) wb_dirty (p * half / wb_dirty) (q * half / wb_dirty) h
    (λ some. div_le (p * half) (q * half) wb_dirty (omega arith) (mul-le-mul_right half h))

-- ---- both

bent_falls : (p setpoint span half wb_dirty more : ℕ) → wb_dirty ≤ more → bent p setpoint span half more ≤ bent p setpoint span half wb_dirty
bent_falls p setpoint span half wb_dirty more h =
    let on_more : ℕ = on_line p setpoint span more in
    let on_less : ℕ = on_line p setpoint span wb_dirty in
    let line : near_empty on_more half more ≤ near_empty on_less half more = near_empty_le on_more on_less half more (on_line_falls p setpoint span wb_dirty more h) in
    let empty : near_empty on_less half more ≤ near_empty on_less half wb_dirty = near_empty_falls on_less half wb_dirty more h in
    omega arith

same_choice : (b : Bool) (less more : ℕ) → more ≤ less → cond b 0 more ≤ cond b 0 less
same_choice true less more h = omega arith
same_choice false less more h = h

pub position_never_rises : PositionNeverRises
unfolding position_ratio
position_never_rises read avg wb_dirty more h =
    same_choice (leb read.limits.hard read.dirty) _ _ (bent_falls _ _ _ _ wb_dirty more h)
