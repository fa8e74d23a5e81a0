-- Which parts are too large for more.
use Rattle.std.proofs.Common.{◌≡◌, ℕ, ◌*◌, ◌<◌, ◌≤◌, false, mul-le-mul_left, arith}
use Rattle.std.proofs.lemmas.Bool.Decides.{nat_tests}
use Rattle.wbt_flex.specs.declared.share.Fraction.{Fraction}
use Rattle.wbt_flex.specs.Proportions.{may_be_added}
use Rattle.wbt_trace.specs.declared.trace.Device.{Device}
use Rattle.wbt_rules.specs.Things.{IsAbove, greatest_share}

-- nothing is added to a part that is above its device's greatest share
pub none_above : (part : Fraction) (device : Device) → IsAbove part device → may_be_added part (greatest_share device) ≡ false
none_above part device above =
    let share : ℕ = greatest_share device in
    let down : share * 100 ≤ 1024 * device.max = omega arith in
    let product : part.den * (share * 100) ≤ part.den * (1024 * device.max) = mul-le-mul_left part.den down in
    let less : part.den * share < part.num * 1024 = omega (arith, product, above) in
    grind (arith, nat_tests)
