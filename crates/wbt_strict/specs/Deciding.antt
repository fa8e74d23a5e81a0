-- What holds of every strict decision, whatever its reads, estimate, writer and moment, and how it stands to the decision of another
-- context at the same numbers.
use Rattle.std.specs.Prelude.{ℕ, ◌≡◌, ◌≢◌, ◌<◌, ◌≤◌, ◌↔◌, None}
use Rattle.wbt_counter.specs.Batch.{stat_error}
use Rattle.wbt_estimate.specs.declared.estimate.Estimate.{Estimate}
use Rattle.wbt_limits.specs.Limits.{freerun, setpoint}
use Rattle.wbt_num.specs.Limits.{IsLawful}
use Rattle.wbt_pause.specs.Decision.{decision_of}
use Rattle.wbt_pause.specs.Reads.{EachDomain, SomeDomain}
use Rattle.wbt_pause.specs.declared.decision.Kind.TheVariants.{Free, Wait}
use Rattle.wbt_pause.specs.declared.reads.Reads.{Reads}
use Rattle.wbt_pause.specs.declared.reads.Task.{Task}
use Rattle.wbt_position.specs.declared.ratio.DomainRead.{DomainRead}
use Rattle.wbt_position.specs.Polynom.{polynom_value}
use Rattle.wbt_position.specs.Position.{position_ratio}
use Rattle.wbt_strict.specs.Bound.{greatest_reading}
use Rattle.wbt_strict.specs.Claims.{ChecksWithinOwnRoot, HasToWaitStrictly, IsStrictlyCalm}
use Rattle.wbt_strict.specs.Decision.{greatest_part, strict_decision, strict_rule}
use Rattle.wbt_strict.specs.Position.{strict_ratio}
use Rattle.wbt_strict.specs.declared.position.TheConstants.{FEW_PAGES}

-- a writer is let through freely exactly where its context has at most half of its threshold and its background threshold in every
-- domain, and no domain is above its hard limit
abbrev pub StrictlyFreeExactly : Type 0
StrictlyFreeExactly = (reads : Reads) (estimate : Estimate) (task : Task) (now : ℕ)
    → ((strict_decision reads estimate task now).kind ≡ Free) ↔ IsStrictlyCalm reads

-- a writer waits exactly where it has to
abbrev pub StrictlyWaitsExactly : Type 0
StrictlyWaitsExactly = (reads : Reads) (estimate : Estimate) (task : Task) (now : ℕ)
    → ((strict_decision reads estimate task now).kind ≡ Wait) ↔ HasToWaitStrictly reads estimate

-- whoever doesn't wait is in a context with at most as many pages as the greatest of its thresholds, of 8 and of the error
abbrev pub GrantsOnSmall : Type 0
GrantsOnSmall = (reads : Reads) (estimate : Estimate) (task : Task) (now : ℕ) → EachDomain (λ domain. IsLawful domain.limits) reads
    → (strict_decision reads estimate task now).kind ≢ Wait → reads.wb_dirty ≤ greatest_reading (greatest_part reads) reads.cpus

-- in a context over its threshold in any domain a writer waits, however much room the domains have, unless the context's pages are few or
-- may be all error
abbrev pub OverItsThresholdWaits : Type 0
OverItsThresholdWaits = (reads : Reads) (estimate : Estimate) (task : Task) (now : ℕ) → EachDomain (λ domain. IsLawful domain.limits) reads
    → SomeDomain (λ domain. domain.wb_thresh < reads.wb_dirty) reads → FEW_PAGES ≤ reads.wb_dirty → stat_error reads.cpus < reads.wb_dirty
    → (strict_decision reads estimate task now).kind ≡ Wait

-- but for few pages, its ratio is in no domain above what the domain's pages allow
abbrev pub WithinTheDomains : Type 0
WithinTheDomains = (reads : Reads) → FEW_PAGES ≤ reads.wb_dirty
    → EachDomain (λ domain. (strict_rule reads).ratio ≤ polynom_value (setpoint domain.limits) domain.dirty domain.limits.hard) reads

-- a free writer checks again within the root of what is free below each of its context's thresholds, or after a page
abbrev pub StrictChecksWithinRoot : Type 0
StrictChecksWithinRoot = (reads : Reads) (estimate : Estimate) (task : Task) (now : ℕ)
    → (strict_decision reads estimate task now).kind ≡ Free → ChecksWithinOwnRoot reads (strict_decision reads estimate task now)

-- a writer is free that another wouldn't be only where some domain is above its freerun, and the context has at most half of its threshold
-- and its background threshold
pub record IsFreeOnItsOwn (reads : Reads) : Type 0 where
  pub above : SomeDomain (λ domain. freerun domain.limits < domain.dirty) reads
  pub calm : IsStrictlyCalm reads

-- so it is wherever the strict decision lets a writer through freely and the other one doesn't
abbrev pub FreerOnlyOnItsOwn : Type 0
FreerOnlyOnItsOwn = (reads : Reads) (estimate : Estimate) (task : Task) (now : ℕ) → (strict_decision reads estimate task now).kind ≡ Free
    → (decision_of reads estimate task now).kind ≢ Free → IsFreeOnItsOwn reads

-- a context with a threshold of 1000 pages on a machine with 4 CPUs, in a domain with so many dirty pages that runs free up to 14990
abbrev pub a_part : (dirty wb_dirty : ℕ) → Reads
a_part dirty wb_dirty = record {
  global = record { limits = record { thresh = 19995; bg = 9985; hard = 19995 }; dirty = dirty; wb_thresh = 1000 };
  cgroup = None;
  wb_dirty = wb_dirty;
  cpus = 4;
  cap = 1024;
}

-- the only context of such a domain, 508 pages above the domain's setpoint
abbrev pub the_whole : DomainRead
the_whole = record { limits = record { thresh = 19995; bg = 9985; hard = 19995 }; dirty = 18000; wb_thresh = 19995 }

-- Neither of the two kinds of context is treated more generously at all numbers. A strict context over its threshold waits where another is
-- free; up to its middle it is free where another waits for the domain; and between them it may be faster, here than one whose device
-- writes a page a second.
pub record StrictAndOthers : Type 0 where
  pub waits_in_free_domains : (estimate : Estimate) (task : Task) (now : ℕ) → (strict_decision (a_part 14990 1001) estimate task now).kind ≡ Wait
  pub where_others_are_free : (estimate : Estimate) (task : Task) (now : ℕ) → (decision_of (a_part 14990 1001) estimate task now).kind ≡ Free
  pub is_free_in_full_domains : (estimate : Estimate) (task : Task) (now : ℕ) → (strict_decision (a_part 19995 749) estimate task now).kind ≡ Free
  pub where_others_wait : (estimate : Estimate) (task : Task) (now : ℕ) → (decision_of (a_part 19995 749) estimate task now).kind ≡ Wait
  pub goes_fast : strict_ratio the_whole 18000 ≡ 802
  pub where_others_go_slow : position_ratio the_whole 18000 1 ≡ 253
