-- The rates of the next estimate are in range.
use Rattle.std.proofs.Common.{◌≡◌, ℕ, ◌+◌, ◌-◌, ◌*◌, ◌/◌, ◌^◌, ◌<◌, ◌≤◌, Bool, true, false, cond, ltb, arith, refl}
use Rattle.std.proofs.lemmas.Bool.Decides.{nat_tests}
use Rattle.std.proofs.lemmas.Nat.{div_below, mul-le, shr_le}
use Rattle.wbt_estimate.specs.declared.estimate.TheConstants.{ESTIMATE_AGE, PERIOD}
use Rattle.wbt_estimate.specs.Bandwidth.{average_after, bandwidth_after, fallen, risen, written_since}
use Rattle.wbt_estimate.specs.RateLimit.{balanced_rate, damped_step, ratelimit_after, whole_step}

-- over more than a period, and over less
long : (grown elapsed : ℕ) → grown < 2 ^ 51 → PERIOD < elapsed → grown / elapsed < 2 ^ 44
long grown elapsed h e = div_below grown elapsed (2 ^ 44) (omega arith) (omega arith)

short : (grown bw elapsed : ℕ) → grown < 1000 * 2 ^ 40 → bw < 2 ^ 44 → ESTIMATE_AGE ≤ elapsed → (grown + bw * (PERIOD - elapsed)) / PERIOD < 2 ^ 44
short grown bw elapsed h k e =
    let part : bw * (PERIOD - elapsed) ≤ 2 ^ 44 * 3896 = mul-le bw (PERIOD - elapsed) (2 ^ 44) 3896 (omega arith) (omega arith) in
    omega arith

pub bandwidth_in_range : (bw written stamp elapsed : ℕ) → bw < 2 ^ 44 → written < 2 ^ 40 → ESTIMATE_AGE ≤ elapsed → bandwidth_after bw written stamp elapsed < 2 ^ 44
bandwidth_in_range bw written stamp elapsed h k e =
    elim (ltb PERIOD elapsed) as (λ b. (b ≡ true → PERIOD < elapsed) → cond b (written_since written stamp / elapsed) ((written_since written stamp + bw * (PERIOD - elapsed)) / PERIOD) < 2 ^ 44) [
      | true ↦ λ is. long (written_since written stamp) elapsed (omega arith) (is refl)
      | false ↦ λ is. short (written_since written stamp) bw elapsed (omega arith) h e
    ] (λ t. grind (arith, nat_tests))

pub fallen_in_range : (avg old bw : ℕ) → fallen avg old bw ≤ avg
fallen_in_range avg old bw = grind (arith, nat_tests)

pub risen_in_range : (avg old bw : ℕ) → avg < 2 ^ 44 → old < 2 ^ 44 → risen avg old bw < 2 ^ 44
risen_in_range avg old bw h k = grind (arith, nat_tests)

pub average_in_range : (avg old bw elapsed : ℕ) → avg < 2 ^ 44 → old < 2 ^ 44 → bw < 2 ^ 44 → (1 ≤ average_after avg old bw elapsed) × (average_after avg old bw elapsed < 2 ^ 44)
average_in_range avg old bw elapsed h k m =
    let f : fallen avg old bw ≤ avg = fallen_in_range avg old bw in
    let r : risen (fallen avg old bw) old bw < 2 ^ 44 = risen_in_range (fallen avg old bw) old bw (omega arith) k in
    grind (arith, nat_tests)

pub balanced_in_range : (task avg rate : ℕ) → avg < 2 ^ 44 → balanced_rate task avg rate < 2 ^ 44
balanced_in_range task avg rate h = omega arith

pub step_up : (below : Bool) (ratelimit before balanced task : ℕ) → ratelimit < balanced → ratelimit + whole_step below ratelimit before balanced task ≤ balanced
step_up true ratelimit before balanced task h = omega arith
step_up false ratelimit before balanced task h = omega arith

pub damped_no_further : (ratelimit step : ℕ) → damped_step ratelimit step ≤ step
damped_no_further ratelimit step =
    let s : step / 2 ^ (ratelimit / (2 * step + 1)) ≤ step = shr_le step (ratelimit / (2 * step + 1)) in
    grind (arith, nat_tests)

pub ratelimit_in_range : (ratelimit balanced step : ℕ) → ratelimit < 2 ^ 44 → balanced < 2 ^ 44 → (ratelimit < balanced → ratelimit + step ≤ balanced) → (1 ≤ ratelimit_after ratelimit balanced step) × (ratelimit_after ratelimit balanced step < 2 ^ 44)
ratelimit_in_range ratelimit balanced step h k up = grind (arith, nat_tests)
