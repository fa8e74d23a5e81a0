-- The rates of the next estimate lie between the old ones and those that they follow.
use Rattle.std.proofs.Common.{◌≡◌, ℕ, ◌+◌, ◌-◌, ◌*◌, ◌/◌, ◌^◌, ◌<◌, ◌≤◌, ◌⊎◌, inl, inr, min, max, Bool, true, false, cond, ltb, refl, sym, ◌∙◌, ap, arith}
use Rattle.std.proofs.lemmas.Bool.{cases_lt}
use Rattle.std.proofs.lemmas.Bool.Decides.{nat_tests}
use Rattle.std.proofs.Math.Nat.{add-mul, mul-add}
use Rattle.std.proofs.lemmas.Nat.{mul-le, shr_le}
use Rattle.wbt_estimate.specs.declared.estimate.TheConstants.{PERIOD}
use Rattle.wbt_estimate.specs.Bandwidth.{written_since}
use Rattle.wbt_estimate.specs.Estimate.{balanced_next}
use Rattle.wbt_estimate.specs.Laws.{AverageIsBetween, BandwidthIsBetween, RateLimitFalls, RateLimitIsBetween, RateLimitRises, StepIsAnEighth}
use Rattle.wbt_estimate.specs.RateLimit.{greatest_rate, least_rate, ratelimit_after, task_rate, whole_step}
use Rattle.wbt_estimate.proofs.Ranges.{damped_no_further}

-- ---- the bandwidth

-- weights that make PERIOD
weighted : (rate elapsed rest : ℕ) → elapsed + rest ≡ PERIOD → rate * elapsed + rate * rest ≡ rate * PERIOD
weighted rate elapsed rest whole = sym (mul-add rate elapsed rest) ∙ ap (λ n. rate * n) whole

-- a weighted middle of two rates lies between them, where the weights make PERIOD and what is measured is rounded down
middle_low : (bw grown rate elapsed rest : ℕ) → elapsed + rest ≡ PERIOD → rate * elapsed ≤ grown → (bw < rate) ⊎ (rate ≤ bw)
    → min bw rate ≤ (grown + bw * rest) / PERIOD
middle_low bw grown rate elapsed rest whole least (inl h) =
    let part : bw * elapsed ≤ rate * elapsed = mul-le bw elapsed rate elapsed (omega arith) (omega arith) in
    omega (arith, weighted bw elapsed rest whole)
middle_low bw grown rate elapsed rest whole least (inr h) =
    let part : rate * rest ≤ bw * rest = mul-le rate rest bw rest h (omega arith) in
    omega (arith, weighted rate elapsed rest whole)

middle_high : (bw grown rate elapsed rest : ℕ) → elapsed + rest ≡ PERIOD → grown < rate * elapsed + elapsed → (rate < bw) ⊎ (bw ≤ rate)
    → (grown + bw * rest) / PERIOD ≤ max bw rate
middle_high bw grown rate elapsed rest whole most (inl h) =
    let part : (rate + 1) * elapsed ≤ bw * elapsed = mul-le (rate + 1) elapsed bw elapsed (omega arith) (omega arith) in
    omega (arith, weighted bw elapsed rest whole, add-mul rate 1 elapsed)
middle_high bw grown rate elapsed rest whole most (inr h) =
    let part : bw * rest ≤ rate * rest = mul-le bw rest rate rest h (omega arith) in
    omega (arith, weighted rate elapsed rest whole)

pub bandwidth_is_between : BandwidthIsBetween
bandwidth_is_between bw written stamp elapsed some =
    let grown : ℕ = written_since written stamp in
    let rate : ℕ = grown / elapsed in
    elim (ltb PERIOD elapsed) as (λ b. (b ≡ false → elapsed ≤ PERIOD) → (min bw rate ≤ cond b rate ((grown + bw * (PERIOD - elapsed)) / PERIOD))
    × (cond b rate ((grown + bw * (PERIOD - elapsed)) / PERIOD) ≤ max bw rate)) [
      | true ↦ λ is. (omega arith, omega arith)
      | false ↦ λ is.
          let within : elapsed ≤ PERIOD = is refl in
          let least : rate * elapsed ≤ grown = omega arith in
          let most : grown < rate * elapsed + elapsed = omega arith in
          (middle_low bw grown rate elapsed (PERIOD - elapsed) (omega arith) least (cases_lt bw rate), middle_high bw grown rate elapsed (PERIOD - elapsed) (omega arith) most (cases_lt rate bw))
    ] (λ t. grind (arith, nat_tests))

pub average_is_between : AverageIsBetween
average_is_between avg old bw elapsed some = grind (arith, nat_tests)

-- ---- the rate limit

-- a step that is no further than the whole way
lies : (below : Bool) (ratelimit before balanced task step : ℕ) → 1 ≤ ratelimit → step ≤ whole_step below ratelimit before balanced task
    → (min ratelimit balanced ≤ ratelimit_after ratelimit balanced step) × (ratelimit_after ratelimit balanced step ≤ max ratelimit balanced)
lies true ratelimit before balanced task step some within = grind (arith, nat_tests)
lies false ratelimit before balanced task step some within = grind (arith, nat_tests)

rises : (below : Bool) (ratelimit before balanced task step : ℕ) → below ≡ true → 1 ≤ ratelimit → step ≤ whole_step below ratelimit before balanced task
    → (ratelimit ≤ ratelimit_after ratelimit balanced step) × (ratelimit_after ratelimit balanced step ≤ max ratelimit (least_rate before balanced task))
rises true ratelimit before balanced task step is some within = grind (arith, nat_tests)
rises false ratelimit before balanced task step is some within = absurd cc

falls : (below : Bool) (ratelimit before balanced task step : ℕ) → below ≡ false → 1 ≤ ratelimit → step ≤ whole_step below ratelimit before balanced task
    → (min ratelimit (greatest_rate before balanced task) ≤ ratelimit_after ratelimit balanced step) × (ratelimit_after ratelimit balanced step ≤ ratelimit)
falls true ratelimit before balanced task step is some within = absurd cc
falls false ratelimit before balanced task step is some within = grind (arith, nat_tests)

pub rate_limit_is_between : RateLimitIsBetween
rate_limit_is_between old sample some =
    lies sample.below_setpoint old.ratelimit old.balanced (balanced_next old sample) (task_rate old.ratelimit sample.ratio) _ some
    (damped_no_further old.ratelimit _)

pub rate_limit_rises : RateLimitRises
rate_limit_rises old sample some below =
    rises sample.below_setpoint old.ratelimit old.balanced (balanced_next old sample) (task_rate old.ratelimit sample.ratio) _ below some
    (damped_no_further old.ratelimit _)

pub rate_limit_falls : RateLimitFalls
rate_limit_falls old sample some above =
    falls sample.below_setpoint old.ratelimit old.balanced (balanced_next old sample) (task_rate old.ratelimit sample.ratio) _ above some
    (damped_no_further old.ratelimit _)

pub step_is_an_eighth : StepIsAnEighth
step_is_an_eighth ratelimit step =
    let s : step / 2 ^ (ratelimit / (2 * step + 1)) ≤ step = shr_le step (ratelimit / (2 * step + 1)) in
    grind (arith, nat_tests)
