-- A context's part of a threshold is at most the threshold.
use Rattle.std.proofs.Common.{ℕ, ◌*◌, ◌/◌, ◌≤◌, mul-le-mul_left, arith}
use Rattle.wbt_flex.specs.declared.share.Fraction.{Fraction}
use Rattle.wbt_num.specs.declared.limits.Limits.{Limits}
use Rattle.wbt_trace.specs.declared.trace.Device.{Device}
use Rattle.wbt_rules.specs.Read.{part_read}

percent_within : (thresh percent : ℕ) → percent ≤ 100 → thresh * percent / 100 ≤ thresh
percent_within thresh percent most =
    let product : thresh * percent ≤ thresh * 100 = mul-le-mul_left thresh most in
    omega (arith, product)

-- what is read of a domain for a context of a device
pub part_is_within : (device : Device) (least : ℕ) (limits : Limits) (share : Fraction) (dirty : ℕ) → device.max ≤ 100
    → (part_read device least limits share dirty).wb_thresh ≤ limits.thresh
part_is_within device least limits share dirty most =
    let greatest = percent_within limits.thresh device.max most in
    omega (arith, greatest)
