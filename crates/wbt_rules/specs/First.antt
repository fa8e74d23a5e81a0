-- The estimate that a context begins with.
use Rattle.std.specs.Prelude.{ℕ, List, map, Option, None, Some}
use Rattle.wbt_estimate.specs.Estimate.{first_at}
use Rattle.wbt_estimate.specs.declared.estimate.Estimate.{Estimate}
use Rattle.wbt_trace.specs.declared.trace.Context.{Context}
use Rattle.wbt_trace.specs.declared.trace.FirstEstimate.{FirstEstimate}
use Rattle.wbt_trace.specs.declared.trace.Trace.{Trace}
use Rattle.wbt_rules.specs.Things.{context_at}

-- the rates of its line, where there is one: the balanced rate is the rate limit, and nothing was measured yet
abbrev pub first_by : (line : Option FirstEstimate) (now : ℕ) → Estimate
first_by None now = first_at now
first_by (Some line) now = record {
  version = 0;
  bw = line.bandwidth;
  avg = line.average;
  ratelimit = line.ratelimit;
  balanced = line.ratelimit;
  written_stamp = 0;
  dirtied_stamp = 0;
  at = now;
}

-- that of a context of a machine that was opened at this moment
unfoldable pub first_estimate : (trace : Trace) (context now : ℕ) → Estimate
first_estimate trace context now = first_by (context_at trace context).estimate now

-- those of all contexts
abbrev pub first_estimates : (trace : Trace) (now : ℕ) → List Estimate
first_estimates trace now = map (λ (context : Context). first_by context.estimate now) trace.contexts
