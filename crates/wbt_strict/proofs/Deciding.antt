-- The laws of decisions, of contexts of strict devices and of others.
use Rattle.std.proofs.Common.{◌≢◌, ℕ, ◌^◌, ◌<◌, ◌≤◌, Bool, true, false, arith}
use Rattle.wbt_num.specs.Limits.{IsLawful}
use Rattle.wbt_estimate.specs.declared.estimate.Estimate.{Estimate}
use Rattle.wbt_pause.proofs.Counting as counting
use Rattle.wbt_pause.proofs.Deciding as plain
use Rattle.wbt_pause.proofs.Finishing as by_rule
use Rattle.wbt_pause.proofs.Small as small
use Rattle.wbt_pause.specs.Claims.{MayBeGranted}
use Rattle.wbt_pause.specs.Pauses.{longest_pause, poll_pages}
use Rattle.wbt_pause.specs.Reads.{EachDomain}
use Rattle.wbt_pause.specs.declared.decision.Kind.TheVariants.{Wait}
use Rattle.wbt_pause.specs.declared.reads.Reads.{Reads}
use Rattle.wbt_pause.specs.declared.reads.Task.{Task}
use Rattle.wbt_position.specs.declared.ratio.DomainRead.{DomainRead}
use Rattle.wbt_strict.proofs.Strictly as strictly
use Rattle.wbt_strict.specs.Bound.{greatest_reading}
use Rattle.wbt_strict.specs.Decision.{decision_for, greatest_part, strict_decision, strict_rule}

-- a writer pauses at most as long as the longest pause of its context
pub pauses_within_longest : (strict : Bool) (reads : Reads) (estimate : Estimate) (task : Task) (now : ℕ)
    → (decision_for strict reads estimate task now).pause ≤ longest_pause reads.wb_dirty estimate.avg
unfolding decision_for
pauses_within_longest true reads estimate task now = by_rule.pauses_within (strict_rule reads) reads.wb_dirty reads.cpus reads.cap estimate task now
pauses_within_longest false reads estimate task now = plain.pauses_within_longest reads estimate task now

-- whoever doesn't wait may be granted pages on these very reads
pub granted_unless_waiting : (strict : Bool) (reads : Reads) (estimate : Estimate) (task : Task) (now : ℕ) → 1 ≤ reads.cap
    → EachDomain (λ domain. IsLawful domain.limits) reads → (decision_for strict reads estimate task now).kind ≢ Wait
    → MayBeGranted reads (decision_for strict reads estimate task now)
unfolding decision_for
granted_unless_waiting true reads estimate task now cap lawful goes = strictly.strictly_granted reads estimate task now cap goes
granted_unless_waiting false reads estimate task now cap lawful goes = plain.granted_unless_waiting reads estimate task now cap lawful goes

-- at most cap pages are left, and one at least to whoever doesn't wait
pub leaves_within_cap : (strict : Bool) (reads : Reads) (estimate : Estimate) (task : Task) (now : ℕ) → 1 ≤ reads.cap
    → ((decision_for strict reads estimate task now).left ≤ reads.cap)
    × ((decision_for strict reads estimate task now).kind ≢ Wait → 1 ≤ (decision_for strict reads estimate task now).left)
unfolding decision_for
leaves_within_cap true reads estimate task now cap =
    let rule = strict_rule reads in (
      by_rule.leaves_at_most rule reads.wb_dirty reads.cpus reads.cap estimate task now,
      by_rule.leaves_some rule reads.wb_dirty reads.cpus reads.cap estimate task now cap,
    )
leaves_within_cap false reads estimate task now cap = plain.leaves_within_cap reads estimate task now cap

-- the writer counts no more pages than before
pub counts_no_more : (strict : Bool) (reads : Reads) (estimate : Estimate) (task : Task) (now : ℕ)
    → (decision_for strict reads estimate task now).task.nr_dirtied ≤ task.nr_dirtied
unfolding decision_for
counts_no_more true reads estimate task now = counting.finished_counts (strict_rule reads) reads.wb_dirty reads.cpus reads.cap estimate task now
counts_no_more false reads estimate task now = counting.counts_no_more reads estimate task now

strictly_small : (reads : Reads) (estimate : Estimate) (task : Task) (now : ℕ) → IsLawful reads.global.limits
    → reads.global.wb_thresh ≤ reads.global.limits.thresh → estimate.ratelimit < 2 ^ 44 → task.nr_dirtied ≤ 2 ^ 22 → task.nr_dirtied_pause ≤ 2 ^ 42
    → (strict_decision reads estimate task now).task.nr_dirtied_pause ≤ 2 ^ 42
strictly_small reads estimate task now lawful part limit few fits =
    let poll : DomainRead → ℕ = λ domain. poll_pages domain.wb_thresh reads.wb_dirty in
    let global : poll reads.global ≤ 2 ^ 42 = small.poll_small reads.global.wb_thresh reads.wb_dirty (omega (arith, part, lawful.thresh_below_hard, lawful.hard_in_range)) in
    small.finished_small (strict_rule reads) reads.wb_dirty reads.cpus reads.cap estimate task now
    (small.least_poll_small poll (poll reads.global) reads.cgroup global) limit few fits

-- a decision leaves its writer an allowance of at most 2 ^ 42 pages, where it had one
pub decision_small : (strict : Bool) (reads : Reads) (estimate : Estimate) (task : Task) (now : ℕ) → IsLawful reads.global.limits
    → reads.global.wb_thresh ≤ reads.global.limits.thresh → estimate.ratelimit < 2 ^ 44 → task.nr_dirtied ≤ 2 ^ 22 → task.nr_dirtied_pause ≤ 2 ^ 42
    → (decision_for strict reads estimate task now).task.nr_dirtied_pause ≤ 2 ^ 42
unfolding decision_for
decision_small true reads estimate task now lawful part limit few fits = strictly_small reads estimate task now lawful part limit few fits
decision_small false reads estimate task now lawful part limit few fits = small.decision_small reads estimate task now lawful limit few fits

-- whoever doesn't wait in a context of a strict device reads at most the greatest of its thresholds, of 8 and of the error
pub grants_on_small : (reads : Reads) (estimate : Estimate) (task : Task) (now : ℕ) → EachDomain (λ domain. IsLawful domain.limits) reads
    → (decision_for true reads estimate task now).kind ≢ Wait → reads.wb_dirty ≤ greatest_reading (greatest_part reads) reads.cpus
unfolding decision_for
grants_on_small reads estimate task now lawful goes = strictly.grants_on_small reads estimate task now lawful goes
