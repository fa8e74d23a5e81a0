-- The estimates that contexts begin with.
use Rattle.std.proofs.Common.{◌≡◌, ℕ, ◌^◌, ◌<◌, length, get_or, refl, Option, Some, None, IfSome, arith}
use Rattle.std.proofs.lemmas.List.{get_or-map}
use Rattle.wbt_estimate.specs.Estimate.{IsSound, first_at}
use Rattle.wbt_estimate.specs.declared.estimate.Estimate.{Estimate}
use Rattle.wbt_trace.specs.Lawful.{IsFirstEstimate}
use Rattle.wbt_trace.specs.declared.trace.Context.{Context}
use Rattle.wbt_trace.specs.declared.trace.FirstEstimate.{FirstEstimate}
use Rattle.wbt_trace.specs.declared.trace.Trace.{Trace}
use Rattle.wbt_rules.specs.First.{first_by, first_estimate, first_estimates}
use Rattle.wbt_rules.specs.Things.{context_in}

pub by_version : (line : Option FirstEstimate) (now : ℕ) → (first_by line now).version ≡ 0
unfolding first_at
by_version None now = refl
by_version (Some line) now = refl

pub by_moment : (line : Option FirstEstimate) (now : ℕ) → (first_by line now).at ≡ now
unfolding first_at
by_moment None now = refl
by_moment (Some line) now = refl

pub by_sound : (line : Option FirstEstimate) (now : ℕ) → IfSome line IsFirstEstimate → now < 2 ^ 62 → IsSound (first_by line now)
unfolding first_at
by_sound None now is less = record {
  bandwidth = omega arith;
  average = (omega arith, omega arith);
  ratelimit = (omega arith, omega arith);
  balanced = omega arith;
  moment = less;
  version = omega arith;
}
by_sound (Some line) now is less = let b = is.bandwidth in let a = is.average in let r = is.ratelimit in record {
  bandwidth = omega arith;
  average = (omega arith, omega arith);
  ratelimit = (omega arith, omega arith);
  balanced = omega arith;
  moment = less;
  version = omega arith;
}

pub first_version : (trace : Trace) (context now : ℕ) → (first_estimate trace context now).version ≡ 0
unfolding first_estimate
first_version trace context now = by_version (context_in trace.contexts context).estimate now

pub first_moment : (trace : Trace) (context now : ℕ) → (first_estimate trace context now).at ≡ now
unfolding first_estimate
first_moment trace context now = by_moment (context_in trace.contexts context).estimate now

pub first_sound : (trace : Trace) (context now : ℕ) → IfSome (context_in trace.contexts context).estimate IsFirstEstimate → now < 2 ^ 62
    → IsSound (first_estimate trace context now)
unfolding first_estimate
first_sound trace context now is less = by_sound (context_in trace.contexts context).estimate now is less

-- by number
pub first_in_range : (trace : Trace) (context now : ℕ) (other : Estimate) → context < length trace.contexts
    → get_or (first_estimates trace now) context other ≡ first_estimate trace context now
unfolding first_estimate
first_in_range trace context now other less =
    get_or-map (λ (line : Context). first_by line.estimate now) trace.contexts context (record { device = 0; domain = 0; expire = None; estimate = None }) other less
