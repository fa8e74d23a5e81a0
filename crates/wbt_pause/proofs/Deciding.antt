-- The laws of a check's decisions.
use Rattle.std.proofs.Common.{◌≡◌, ℕ, zero, suc, ◌*◌, ◌/◌, ◌^◌, ◌<◌, ◌≤◌, ◌⊎◌, ◌&&◌, min, Bool, true, false, Option, Some, None, IfSome, IsSomeAnd, ⊎_elim, refl, inl, inr, arith}
use Rattle.std.specs.Option.{option_map_or}
use Rattle.std.proofs.lemmas.Bool.Decides.{nat_tests}
use Rattle.std.proofs.lemmas.Option.{IfSome_then}
use Rattle.wbt_num.specs.Limits.{IsLawful}
use Rattle.wbt_counter.specs.Batch.{stat_error}
use Rattle.wbt_counter.specs.Through.{lets_through}
use Rattle.wbt_limits.specs.Limits.{freerun}
use Rattle.wbt_position.specs.declared.ratio.DomainRead.{DomainRead}
use Rattle.wbt_position.specs.Position.{position_ratio}
use Rattle.wbt_estimate.specs.declared.estimate.Estimate.{Estimate}
use Rattle.wbt_pause.specs.declared.reads.Reads.{Reads}
use Rattle.wbt_pause.specs.Decision.{decided, decision_of, domain_rule, is_free, least_ratio, rate_of}
use Rattle.wbt_pause.specs.Claims.{HasToWait, IsCalm, LetsThrough, RuleMakesWait}
use Rattle.wbt_pause.specs.Laws.{CalmGoesOn, GrantedUnlessWaiting, LeavesWithinCap, LongestWithin200, PausesWithinLongest, WaitingHasNone, WaitsExactly}
use Rattle.wbt_pause.specs.Pauses.{longest_pause}
use Rattle.wbt_pause.specs.Reads.{EachDomain, SomeDomain, every_domain}
use Rattle.wbt_pause.proofs.Finishing as by_rule

-- ---- calm or not

free_tells : (domain : DomainRead) → is_free domain ≡ true → domain.dirty ≤ freerun domain.limits
free_tells domain h = grind (arith, nat_tests)

free_when : (domain : DomainRead) → domain.dirty ≤ freerun domain.limits → is_free domain ≡ true
free_when domain h = grind (arith, nat_tests)

above_tells : (domain : DomainRead) → is_free domain ≡ false → freerun domain.limits < domain.dirty
above_tells domain h = grind (arith, nat_tests)

pub both_true : (a b : Bool) → (a && b) ≡ true → (a ≡ true) × (b ≡ true)
both_true true b h = (refl, h)
both_true false b h = absurd cc

one_false : (a b : Bool) → (a && b) ≡ false → (a ≡ false) ⊎ (b ≡ false)
one_false true b h = inr h
one_false false b h = inl refl

both_when : (a b : Bool) → a ≡ true → b ≡ true → (a && b) ≡ true
both_when true b h k = k
both_when false b h k = h

cgroup_calm : (cgroup : Option DomainRead) → option_map_or is_free cgroup true ≡ true → IfSome cgroup (λ domain. domain.dirty ≤ freerun domain.limits)
cgroup_calm None h = tt
cgroup_calm (Some domain) h = free_tells domain h

cgroup_true : (cgroup : Option DomainRead) → IfSome cgroup (λ domain. domain.dirty ≤ freerun domain.limits) → option_map_or is_free cgroup true ≡ true
cgroup_true None h = refl
cgroup_true (Some domain) h = free_when domain h

cgroup_above : (cgroup : Option DomainRead) → option_map_or is_free cgroup true ≡ false → IsSomeAnd cgroup (λ domain. freerun domain.limits < domain.dirty)
cgroup_above None h = absurd cc
cgroup_above (Some domain) h = above_tells domain h

pub calm_of : (reads : Reads) → every_domain is_free reads ≡ true → IsCalm reads
calm_of reads h =
    let both = both_true (is_free reads.global) (option_map_or is_free reads.cgroup true) h in
    (free_tells reads.global both.0, cgroup_calm reads.cgroup both.1)

true_of : (reads : Reads) → IsCalm reads → every_domain is_free reads ≡ true
true_of reads h =
    both_when (is_free reads.global) (option_map_or is_free reads.cgroup true) (free_when reads.global h.0) (cgroup_true reads.cgroup h.1)

pub above_of : (reads : Reads) → every_domain is_free reads ≡ false → SomeDomain (λ domain. freerun domain.limits < domain.dirty) reads
above_of reads h =
    elim (one_false (is_free reads.global) (option_map_or is_free reads.cgroup true) h) [
      | inl global ↦ inl (above_tells reads.global global)
      | inr cgroup ↦ inr (cgroup_above reads.cgroup cgroup)
    ]

cgroup_not_calm : (cgroup : Option DomainRead) → IsSomeAnd cgroup (λ domain. freerun domain.limits < domain.dirty) → IfSome cgroup (λ domain. domain.dirty ≤ freerun domain.limits) → ⊥
cgroup_not_calm None h k = h
cgroup_not_calm (Some domain) h k = omega arith

not_calm : (reads : Reads) → SomeDomain (λ domain. freerun domain.limits < domain.dirty) reads → IsCalm reads → ⊥
not_calm reads above calm =
    elim above [ inl global ↦ omega (arith, calm.0) | inr cgroup ↦ cgroup_not_calm reads.cgroup cgroup calm.1 ]

-- ---- let through

below_lets : (error hard dirty wb_dirty : ℕ) → dirty ≤ hard → lets_through error (Some hard) (Some dirty) (Some wb_dirty) ≡ true
below_lets error hard dirty wb_dirty h = grind (arith, nat_tests)

error_lets : (error hard dirty wb_dirty : ℕ) → wb_dirty ≤ error → lets_through error (Some hard) (Some dirty) (Some wb_dirty) ≡ true
error_lets error hard dirty wb_dirty h = grind (arith, nat_tests)

-- what each domain has, each has of which it follows
pub each_then : (reads : Reads) {P Q : DomainRead → Type 0} → EachDomain P reads → ((domain : DomainRead) → P domain → Q domain) → EachDomain Q reads
each_then reads each follows = (follows reads.global each.0, IfSome_then reads.cgroup each.1 follows)

every_then : (cgroup : Option DomainRead) {P : DomainRead → Type 0} → ((domain : DomainRead) → P domain) → IfSome cgroup P
every_then None all = tt
every_then (Some domain) all = all domain

pub under_limits : (reads : Reads) → EachDomain (λ domain. domain.dirty ≤ domain.limits.hard) reads → LetsThrough reads
under_limits reads each =
    each_then reads each (λ domain h. below_lets (stat_error reads.cpus) domain.limits.hard domain.dirty reads.wb_dirty h)

pub within_error : (reads : Reads) → reads.wb_dirty ≤ stat_error reads.cpus → LetsThrough reads
within_error reads h =
    let lets : (domain : DomainRead) → lets_through (stat_error reads.cpus) (Some domain.limits.hard) (Some domain.dirty) (Some reads.wb_dirty) ≡ true =
    λ domain. error_lets (stat_error reads.cpus) domain.limits.hard domain.dirty reads.wb_dirty h in
    (lets reads.global, every_then reads.cgroup lets)

calm_below : (domain : DomainRead) → IsLawful domain.limits → domain.dirty ≤ freerun domain.limits → domain.dirty ≤ domain.limits.hard
calm_below domain lawful h = omega arith

cgroup_below : (cgroup : Option DomainRead) → IfSome cgroup (λ domain. IsLawful domain.limits) → IfSome cgroup (λ domain. domain.dirty ≤ freerun domain.limits) → IfSome cgroup (λ domain. domain.dirty ≤ domain.limits.hard)
cgroup_below None lawful h = tt
cgroup_below (Some domain) lawful h = calm_below domain lawful h

calm_through : (reads : Reads) → EachDomain (λ domain. IsLawful domain.limits) reads → IsCalm reads → LetsThrough reads
calm_through reads lawful calm =
    under_limits reads (calm_below reads.global lawful.0 calm.0, cgroup_below reads.cgroup lawful.1 calm.1)

-- a rate comes only of a ratio that isn't 0, so of domains below their hard limits
none_at_the_limit : (read : DomainRead) (wb_dirty avg : ℕ) → 0 < position_ratio read wb_dirty avg → read.dirty ≤ read.limits.hard
unfolding position_ratio
none_at_the_limit read wb_dirty avg h = grind (arith, nat_tests)

pub some_of_both : (a b : ℕ) → 0 < a * b / 2 ^ 10 → 0 < b
some_of_both a zero h = omega arith
some_of_both a (suc b) h = omega arith

pub some_of_each : (number : DomainRead → ℕ) (global : ℕ) (cgroup : Option DomainRead) → 0 < option_map_or (λ domain. min global (number domain)) cgroup global
    → (0 < global) × IfSome cgroup (λ domain. 0 < number domain)
some_of_each number global None h = (h, tt)
some_of_each number global (Some domain) h = (omega arith, omega arith)

cgroup_under : (cgroup : Option DomainRead) (wb_dirty avg : ℕ) → IfSome cgroup (λ domain. 0 < position_ratio domain wb_dirty avg) → IfSome cgroup (λ domain. domain.dirty ≤ domain.limits.hard)
cgroup_under None wb_dirty avg h = tt
cgroup_under (Some domain) wb_dirty avg h = none_at_the_limit domain wb_dirty avg h

rate_through : (reads : Reads) (estimate : Estimate) → 0 < rate_of (least_ratio reads estimate) estimate → LetsThrough reads
unfolding rate_of
rate_through reads estimate h =
    let ratio : DomainRead → ℕ = λ domain. position_ratio domain reads.wb_dirty estimate.avg in
    let each = some_of_each ratio (ratio reads.global) reads.cgroup (some_of_both estimate.ratelimit _ h) in
    under_limits reads (none_at_the_limit reads.global reads.wb_dirty estimate.avg each.0, cgroup_under reads.cgroup reads.wb_dirty estimate.avg each.1)

-- ---- of every decision

pub pauses_within_longest : PausesWithinLongest
unfolding decision_of
pauses_within_longest reads estimate task now =
    by_rule.pauses_within (domain_rule reads estimate) reads.wb_dirty reads.cpus reads.cap estimate task now

pub longest_within_200 : LongestWithin200
unfolding longest_pause
longest_within_200 wb_dirty avg = omega arith

pub calm_goes_on : CalmGoesOn
unfolding decision_of decided
calm_goes_on reads estimate task now cap calm =
    let free : every_domain is_free reads ≡ true = true_of reads calm in
    rw free (record { free = refl; at_once = refl; pages = omega arith })

pub granted_unless_waiting : GrantedUnlessWaiting
unfolding decision_of
granted_unless_waiting reads estimate task now cap lawful ne =
    let rule = domain_rule reads estimate in
    record {
      through = ⊎_elim (λ free. calm_through reads lawful (calm_of reads free))
          (⊎_elim (rate_through reads estimate) (within_error reads))
          (by_rule.goes_on_because rule reads.wb_dirty reads.cpus reads.cap estimate task now ne);
      pages = (
        by_rule.leaves_some rule reads.wb_dirty reads.cpus reads.cap estimate task now cap ne,
        by_rule.leaves_at_most rule reads.wb_dirty reads.cpus reads.cap estimate task now,
      );
    }

held_when : (reads : Reads) (estimate : Estimate) → HasToWait reads estimate → RuleMakesWait (domain_rule reads estimate) reads.wb_dirty reads.cpus estimate
held_when reads estimate has =
    elim (every_domain is_free reads) as (λ b. every_domain is_free reads ≡ b → RuleMakesWait (domain_rule reads estimate) reads.wb_dirty reads.cpus estimate) [
      | true ↦ λ is. absurd (not_calm reads has.above (calm_of reads is))
      | false ↦ λ is. record { not_free = is; no_rate = has.no_rate; more_than_error = has.more_than_error }
    ] refl

pub waits_exactly : WaitsExactly
unfolding decision_of
waits_exactly reads estimate task now =
    let waits = by_rule.waits_exactly (domain_rule reads estimate) reads.wb_dirty reads.cpus reads.cap estimate task now in (
      λ e. let made = waits.0 e in record { above = above_of reads made.not_free; no_rate = made.no_rate; more_than_error = made.more_than_error },
      λ has. waits.1 (held_when reads estimate has),
    )

pub waiting_has_none : WaitingHasNone
unfolding decision_of
waiting_has_none reads estimate task now =
    by_rule.waiting_has_none (domain_rule reads estimate) reads.wb_dirty reads.cpus reads.cap estimate task now

pub leaves_within_cap : LeavesWithinCap
unfolding decision_of
leaves_within_cap reads estimate task now cap =
    let rule = domain_rule reads estimate in (
      by_rule.leaves_at_most rule reads.wb_dirty reads.cpus reads.cap estimate task now,
      by_rule.leaves_some rule reads.wb_dirty reads.cpus reads.cap estimate task now cap,
    )
