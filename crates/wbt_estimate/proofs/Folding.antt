-- Soundness is kept by one sample, and so by a list.
use Rattle.std.proofs.Common.{◌≡◌, ℕ, suc, ◌+◌, ◌^◌, ◌<◌, ◌≤◌, true, false, cond, ltb, [], ◌∷◌, arith, refl, lit<, lit≤, unwrap_or, Some, None}
use Rattle.std.proofs.lemmas.Bool.Decides.{nat_tests}
use Rattle.wbt_estimate.specs.declared.estimate.TheConstants.{ESTIMATE_AGE}
use Rattle.wbt_estimate.specs.declared.estimate.Estimate.{Estimate}
use Rattle.wbt_estimate.specs.declared.estimate.Sample.{Sample}
use Rattle.wbt_estimate.specs.Estimate.{IsInRange, IsSound, balanced_next, bandwidth_next, elapsed_since, estimate_after, first_at, update_of, updated}
use Rattle.wbt_estimate.specs.Laws.{SoundFromTheFirst, StaysSound}
use Rattle.wbt_estimate.specs.RateLimit.{damped_step, task_rate, whole_step}
use Rattle.wbt_estimate.proofs.Ranges.{average_in_range, balanced_in_range, bandwidth_in_range, damped_no_further, ratelimit_in_range, step_up}

updated_sound : (old : Estimate) (sample : Sample) → IsSound old → IsInRange sample → ESTIMATE_AGE ≤ elapsed_since old sample → IsSound (updated old sample)
unfolding updated
updated_sound old sample sound range enough =
    let task : ℕ = task_rate old.ratelimit sample.ratio in
    let balanced : ℕ = balanced_next old sample in
    let step : ℕ = whole_step sample.below_setpoint old.ratelimit old.balanced balanced task in
    let balanced_fits : balanced < 2 ^ 44 = balanced_in_range task old.avg _ sound.average.1 in
    let no_further : damped_step old.ratelimit step ≤ step = damped_no_further old.ratelimit step in
    let bandwidth_fits : bandwidth_next old sample < 2 ^ 44 = bandwidth_in_range old.bw sample.written old.written_stamp (elapsed_since old sample) sound.bandwidth range.written enough in
    record {
      bandwidth = bandwidth_fits;
      average = average_in_range old.avg old.bw (bandwidth_next old sample) (elapsed_since old sample) sound.average.1 sound.bandwidth bandwidth_fits;
      ratelimit = ratelimit_in_range old.ratelimit balanced (damped_step old.ratelimit step) sound.ratelimit.1 balanced_fits (λ up. let all : old.ratelimit + step ≤ balanced = step_up sample.below_setpoint old.ratelimit old.balanced balanced task up in omega arith);
      balanced = balanced_fits;
      moment = range.moment;
      version = omega (arith, sound.version);
    }

one_more : (old : Estimate) (sample : Sample) → IsSound old → IsInRange sample → IsSound (unwrap_or (update_of old sample) old)
unfolding update_of
one_more old sample sound range =
    elim (ltb (elapsed_since old sample) ESTIMATE_AGE) as (λ b. (b ≡ false → ESTIMATE_AGE ≤ elapsed_since old sample) → IsSound (unwrap_or (cond b None (Some (updated old sample))) old)) [
      | true ↦ λ is. sound
      | false ↦ λ is. updated_sound old sample sound range (is refl)
    ] (λ t. grind (arith, nat_tests))

pub stays_sound : StaysSound
unfolding estimate_after
stays_sound start [] sound range = sound
stays_sound start (sample ∷ samples) sound range =
    stays_sound (unwrap_or (update_of start sample) start) samples (one_more start sample sound (range 0 sample (omega arith)))
    (λ k d h. range (suc k) d (omega arith))

pub first_sound : (now : ℕ) → now < 2 ^ 62 → IsSound (first_at now)
unfolding first_at
first_sound now h = record {
  bandwidth = lit< tt;
  average = (lit≤ tt, lit< tt);
  ratelimit = (lit≤ tt, lit< tt);
  balanced = lit< tt;
  moment = h;
  version = omega arith;
}

pub sound_from_the_first : SoundFromTheFirst
sound_from_the_first now samples h range = stays_sound (first_at now) samples (first_sound now h) range
