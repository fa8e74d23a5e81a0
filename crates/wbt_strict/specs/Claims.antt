-- What the clauses of a strict decision say.
use Rattle.std.specs.Prelude.{◌≡◌, ◌-◌, ◌<◌, ◌≤◌, ◌⊎◌}
use Rattle.wbt_counter.specs.Batch.{stat_error}
use Rattle.wbt_estimate.specs.declared.estimate.Estimate.{Estimate}
use Rattle.wbt_pause.specs.Claims.{IsWithinRoot}
use Rattle.wbt_pause.specs.Decision.{rate_of}
use Rattle.wbt_pause.specs.Reads.{EachDomain, SomeDomain}
use Rattle.wbt_pause.specs.declared.decision.Decision.{Decision}
use Rattle.wbt_pause.specs.declared.reads.Reads.{Reads}
use Rattle.wbt_strict.specs.Decision.{strict_rule}
use Rattle.wbt_strict.specs.Position.{context_middle}

-- the parts of a check's reads: no context's threshold is above its domain's
abbrev pub ArePartsWithin : (reads : Reads) → Type 0
ArePartsWithin reads = EachDomain (λ domain. domain.wb_thresh ≤ domain.limits.thresh) reads

-- in every domain the context has at most half of its threshold and its background threshold, and the domain has room
abbrev pub IsStrictlyCalm : (reads : Reads) → Type 0
IsStrictlyCalm reads = EachDomain (λ domain. (reads.wb_dirty ≤ context_middle domain) × (domain.dirty ≤ domain.limits.hard)) reads

-- where a writer of a strict context has to wait: some domain isn't calm, the task may dirty nothing, and the context has more pages than
-- its reading may be off
pub record HasToWaitStrictly (reads : Reads) (estimate : Estimate) : Type 0 where
  pub above : SomeDomain (λ domain. (context_middle domain < reads.wb_dirty) ⊎ (domain.limits.hard < domain.dirty)) reads
  pub no_rate : rate_of (strict_rule reads).ratio estimate ≡ 0
  pub more_than_error : stat_error reads.cpus < reads.wb_dirty

-- a free writer counts anew, and checks again within the root of what is free below each of its context's thresholds
pub record ChecksWithinOwnRoot (reads : Reads) (decision : Decision) : Type 0 where
  pub anew : decision.task.nr_dirtied ≡ 0
  pub root : EachDomain (λ domain. IsWithinRoot decision.task.nr_dirtied_pause (domain.wb_thresh - reads.wb_dirty)) reads
