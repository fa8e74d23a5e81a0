-- Which contexts are held to their own part, and when one of them is over background by itself.
use Rattle.std.specs.Prelude.{ℕ, Bool, nat_lt}
use Rattle.wbt_limits.specs.Context.{context_background}
use Rattle.wbt_position.specs.declared.ratio.DomainRead.{DomainRead}
use Rattle.wbt_rules.specs.Things.{context_at, device_at}
use Rattle.wbt_trace.specs.declared.trace.Trace.{Trace}

-- the context is one of a strict device
unfoldable pub is_strict : (trace : Trace) (context : ℕ) → Bool
is_strict trace context = (device_at trace (context_at trace context).device).strict

-- the context reads more pages than its own part of the domain's background threshold
abbrev pub is_over_own : (reading : ℕ) (read : DomainRead) → Bool
is_over_own reading read = nat_lt (context_background read.wb_thresh read.limits.bg read.limits.thresh) reading
