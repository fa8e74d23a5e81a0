-- The laws of strict decisions.
use Rattle.std.proofs.Common.{◌≡◌, ◌≢◌, ℕ, zero, suc, ◌-◌, ◌*◌, ◌<◌, ◌≤◌, ◌⊎◌, ◌&&◌, min, max, Bool, true, false, cond, leb, ltb, Option, Some, None, IfSome, IsSomeAnd, ⊎_elim, refl, sym, ap, subst, inl, inr, arith, true≢false}
use Rattle.std.specs.Option.{option_map_or}
use Rattle.std.proofs.lemmas.Bool.Decides.{nat_tests}
use Rattle.std.proofs.Math.Nat.{div-le_of_le-mul}
use Rattle.std.proofs.lemmas.Nat.{mul-le}
use Rattle.wbt_num.specs.Limits.{IsLawful}
use Rattle.wbt_estimate.specs.declared.estimate.Estimate.{Estimate}
use Rattle.wbt_limits.specs.Context.{context_background}
use Rattle.wbt_limits.specs.Limits.{setpoint}
use Rattle.wbt_pause.proofs.Deciding.{above_of, both_true, some_of_both, some_of_each, under_limits, within_error}
use Rattle.wbt_pause.proofs.Finishing as by_rule
use Rattle.wbt_pause.proofs.Polling as polling
use Rattle.wbt_pause.specs.Claims.{IsWithinRoot, LetsThrough, MayBeGranted}
use Rattle.wbt_pause.specs.Decision.{decision_of, domain_rule, is_free, rate_of}
use Rattle.wbt_pause.specs.Reads.{EachDomain, SomeDomain, every_domain}
use Rattle.wbt_pause.specs.declared.decision.Kind.TheVariants.{Wait}
use Rattle.wbt_pause.specs.declared.reads.Reads.{Reads}
use Rattle.wbt_pause.specs.declared.reads.Task.{Task}
use Rattle.wbt_position.specs.declared.ratio.DomainRead.{DomainRead}
use Rattle.wbt_position.specs.Polynom.{polynom_value}
use Rattle.wbt_strict.proofs.Falling.{own_at_most}
use Rattle.wbt_strict.specs.Claims.{IsStrictlyCalm}
use Rattle.wbt_strict.specs.Deciding.{FreerOnlyOnItsOwn, GrantsOnSmall, OverItsThresholdWaits, StrictChecksWithinRoot, StrictlyFreeExactly, StrictlyWaitsExactly, WithinTheDomains}
use Rattle.wbt_strict.specs.Decision.{greatest_part, is_strictly_free, strict_decision, strict_rule}
use Rattle.wbt_strict.specs.Position.{context_middle, strict_ratio}
use Rattle.wbt_strict.specs.declared.position.TheConstants.{FEW_PAGES}

-- ---- the middle of a context

background_below : (part bg thresh : ℕ) → bg ≤ thresh → context_background part bg thresh ≤ part
background_below part bg zero h = omega arith
background_below part bg (suc thresh) h =
    let product : part * bg ≤ part * suc thresh = mul-le part bg part (suc thresh) (omega arith) h in
    let swapped : part * suc thresh ≡ suc thresh * part = grind arith in
    div-le_of_le-mul (suc thresh) (omega (arith, product, swapped))

middle_below : (domain : DomainRead) → IsLawful domain.limits → context_middle domain ≤ domain.wb_thresh
middle_below domain lawful =
    let below = background_below domain.wb_thresh domain.limits.bg domain.limits.thresh lawful.bg_below_thresh in omega (arith, below)

-- ---- calm or not

module _ (wb_dirty : ℕ) where
  abbrev IsCalmIn : DomainRead → Type 0
  IsCalmIn domain = (wb_dirty ≤ context_middle domain) × (domain.dirty ≤ domain.limits.hard)

  abbrev IsAboveIn : DomainRead → Type 0
  IsAboveIn domain = (context_middle domain < wb_dirty) ⊎ (domain.limits.hard < domain.dirty)

  free_tells : (domain : DomainRead) → is_strictly_free wb_dirty domain ≡ true → IsCalmIn domain
  free_tells domain h =
      let both = both_true (leb wb_dirty (context_middle domain)) (leb domain.dirty domain.limits.hard) h in
      let own = both.0 in let whole = both.1 in (grind (arith, nat_tests), grind (arith, nat_tests))

  free_when : (domain : DomainRead) → IsCalmIn domain → is_strictly_free wb_dirty domain ≡ true
  free_when domain h = let own = h.0 in let whole = h.1 in grind (arith, nat_tests)

  above_tells : (domain : DomainRead) → is_strictly_free wb_dirty domain ≡ false → IsAboveIn domain
  above_tells domain =
      elim (leb wb_dirty (context_middle domain)) as (λ b. (b ≡ false → context_middle domain < wb_dirty) → (b && leb domain.dirty domain.limits.hard) ≡ false → IsAboveIn domain) [
        | true ↦ λ own h. inr (grind (arith, nat_tests))
        | false ↦ λ own h. inl (own refl)
      ] (λ t. grind (arith, nat_tests))

  not_both : (domain : DomainRead) → IsAboveIn domain → IsCalmIn domain → ⊥
  not_both domain (inl own) calm = omega (arith, own, calm.0)
  not_both domain (inr whole) calm = omega (arith, whole, calm.1)

  cgroup_calm : (cgroup : Option DomainRead) → option_map_or (is_strictly_free wb_dirty) cgroup true ≡ true → IfSome cgroup IsCalmIn
  cgroup_calm None h = tt
  cgroup_calm (Some domain) h = free_tells domain h

  both_free : (global : DomainRead) (cgroup : Option DomainRead) → IsCalmIn global → IfSome cgroup IsCalmIn
      → (is_strictly_free wb_dirty global && option_map_or (is_strictly_free wb_dirty) cgroup true) ≡ true
  both_free global None h k = rw (free_when global h) refl
  both_free global (Some domain) h k = rw (free_when global h) (free_when domain k)

  some_above : (global : DomainRead) (cgroup : Option DomainRead)
      → (is_strictly_free wb_dirty global && option_map_or (is_strictly_free wb_dirty) cgroup true) ≡ false
      → IsAboveIn global ⊎ IsSomeAnd cgroup IsAboveIn
  some_above global cgroup =
      elim (is_strictly_free wb_dirty global) as (λ b. is_strictly_free wb_dirty global ≡ b → (b && option_map_or (is_strictly_free wb_dirty) cgroup true) ≡ false → IsAboveIn global ⊎ IsSomeAnd cgroup IsAboveIn) [
        | true ↦ λ is h. inr (cgroup_above cgroup h)
        | false ↦ λ is h. inl (above_tells global is)
      ] refl
    where
      cgroup_above : (o : Option DomainRead) → option_map_or (is_strictly_free wb_dirty) o true ≡ false → IsSomeAnd o IsAboveIn
      cgroup_above None h = absurd (true≢false h)
      cgroup_above (Some domain) h = above_tells domain h

  cgroup_not_both : (cgroup : Option DomainRead) → IsSomeAnd cgroup IsAboveIn → IfSome cgroup IsCalmIn → ⊥
  cgroup_not_both None h k = h
  cgroup_not_both (Some domain) h k = not_both domain h k

calm_when_free : (reads : Reads) → (strict_rule reads).free ≡ true → IsStrictlyCalm reads
calm_when_free reads h =
    let both = both_true (is_strictly_free reads.wb_dirty reads.global) (option_map_or (is_strictly_free reads.wb_dirty) reads.cgroup true) h in
    (free_tells reads.wb_dirty reads.global both.0, cgroup_calm reads.wb_dirty reads.cgroup both.1)

free_when_calm : (reads : Reads) → IsStrictlyCalm reads → (strict_rule reads).free ≡ true
free_when_calm reads calm = both_free reads.wb_dirty reads.global reads.cgroup calm.0 calm.1

-- ---- what a ratio tells

none_or : (b : Bool) (x : ℕ) → x ≡ 0 → cond b 0 x ≡ 0
none_or true x h = refl
none_or false x h = h

-- from the domain's hard limit on there is none
ratio_below_hard : (read : DomainRead) (wb_dirty : ℕ) → 0 < strict_ratio read wb_dirty → read.dirty ≤ read.limits.hard
unfolding strict_ratio
ratio_below_hard read wb_dirty h = grind (arith, nat_tests)

-- nor from the context's threshold on, but with few pages
none_from_threshold : (read : DomainRead) (wb_dirty : ℕ) → FEW_PAGES ≤ wb_dirty → read.wb_thresh ≤ wb_dirty → strict_ratio read wb_dirty ≡ 0
unfolding strict_ratio
none_from_threshold read wb_dirty many full =
    let p : ℕ = polynom_value (setpoint read.limits) read.dirty read.limits.hard in
    let enough : ltb wb_dirty FEW_PAGES ≡ false = grind (arith, nat_tests) in
    let reached : leb read.wb_thresh wb_dirty ≡ true = grind (arith, nat_tests) in
    none_or (leb read.limits.hard read.dirty) _ (rw enough (rw reached refl))

few_or_below : (read : DomainRead) (wb_dirty : ℕ) → 0 < strict_ratio read wb_dirty → wb_dirty < max read.wb_thresh FEW_PAGES
few_or_below read wb_dirty some = ⊎_elim (λ t. omega (arith, t))
    (λ many. ⊎_elim (λ u. omega (arith, u)) (λ full. let none = none_from_threshold read wb_dirty many full in absurd (omega (arith, none, some)))
    (less_or (read.wb_thresh) wb_dirty)) (less_or FEW_PAGES wb_dirty)
  where
    less_or : (limit n : ℕ) → (n < limit) ⊎ (limit ≤ n)
    less_or limit n = elim (ltb n limit) as (λ b. (b ≡ true → n < limit) → (b ≡ false → limit ≤ n) → (n < limit) ⊎ (limit ≤ n))
        [ true ↦ λ is not. inl (is refl) | false ↦ λ is not. inr (not refl) ] (λ t. grind (arith, nat_tests)) (λ t. grind (arith, nat_tests))

ratio_within : (read : DomainRead) (wb_dirty : ℕ) → FEW_PAGES ≤ wb_dirty
    → strict_ratio read wb_dirty ≤ polynom_value (setpoint read.limits) read.dirty read.limits.hard
unfolding strict_ratio
ratio_within read wb_dirty many =
    let p : ℕ = polynom_value (setpoint read.limits) read.dirty read.limits.hard in
    let enough : ltb wb_dirty FEW_PAGES ≡ false = grind (arith, nat_tests) in
    none_or_within (leb read.limits.hard read.dirty) _ p (rw enough (own_at_most p (context_middle read) read.wb_thresh wb_dirty))
  where
    none_or_within : (b : Bool) (x p : ℕ) → x ≤ p → cond b 0 x ≤ p
    none_or_within true x p h = omega arith
    none_or_within false x p h = h

-- ---- of both domains

abbrev strict_in : (wb_dirty : ℕ) → DomainRead → ℕ
strict_in wb_dirty domain = strict_ratio domain wb_dirty

each_ratio : (reads : Reads) (estimate : Estimate) → 0 < rate_of (strict_rule reads).ratio estimate
    → EachDomain (λ domain. 0 < strict_ratio domain reads.wb_dirty) reads
unfolding rate_of
each_ratio reads estimate some =
    some_of_each (strict_in reads.wb_dirty) (strict_ratio reads.global reads.wb_dirty) reads.cgroup (some_of_both estimate.ratelimit _ some)

map_some : (cgroup : Option DomainRead) {P Q : DomainRead → Type 0} → IfSome cgroup P → ((domain : DomainRead) → P domain → Q domain) → IfSome cgroup Q
map_some None h f = tt
map_some (Some domain) h f = f domain h

rate_through : (reads : Reads) (estimate : Estimate) → 0 < rate_of (strict_rule reads).ratio estimate → LetsThrough reads
rate_through reads estimate some =
    let each = each_ratio reads estimate some in
    under_limits reads (
      ratio_below_hard reads.global reads.wb_dirty each.0,
      map_some reads.cgroup each.1 (λ domain h. ratio_below_hard domain reads.wb_dirty h),
    )

calm_through : (reads : Reads) → IsStrictlyCalm reads → LetsThrough reads
calm_through reads calm = under_limits reads (calm.0.1, map_some reads.cgroup calm.1 (λ domain h. h.1))

global_part : (global : DomainRead) (cgroup : Option DomainRead)
    → global.wb_thresh ≤ option_map_or (λ c. max global.wb_thresh c.wb_thresh) cgroup global.wb_thresh
global_part global None = omega arith
global_part global (Some c) = omega arith

least_below : (number : DomainRead → ℕ) (global : DomainRead) (cgroup : Option DomainRead)
    → (option_map_or (λ c. min (number global) (number c)) cgroup (number global) ≤ number global)
    × IfSome cgroup (λ domain. option_map_or (λ c. min (number global) (number c)) cgroup (number global) ≤ number domain)
least_below number global None = (omega arith, tt)
least_below number global (Some c) = (omega arith, omega arith)

-- ---- the laws

pub strictly_free_exactly : StrictlyFreeExactly
strictly_free_exactly reads estimate task now =
    let free = by_rule.free_exactly (strict_rule reads) reads.wb_dirty reads.cpus reads.cap estimate task now in
    (λ e. calm_when_free reads (free.0 e), λ calm. free.1 (free_when_calm reads calm))

above_not_free : (reads : Reads) → SomeDomain (λ domain. (context_middle domain < reads.wb_dirty) ⊎ (domain.limits.hard < domain.dirty)) reads
    → (strict_rule reads).free ≡ false
above_not_free reads above =
    elim (strict_rule reads).free as (λ b. (strict_rule reads).free ≡ b → b ≡ false) [
      | true ↦ λ is. let calm = calm_when_free reads is in
          absurd (⊎_elim (λ global. not_both reads.wb_dirty reads.global global calm.0) (λ cgroup. cgroup_not_both reads.wb_dirty reads.cgroup cgroup calm.1) above)
      | false ↦ λ is. refl
    ] refl

pub strictly_waits_exactly : StrictlyWaitsExactly
strictly_waits_exactly reads estimate task now =
    let waits = by_rule.waits_exactly (strict_rule reads) reads.wb_dirty reads.cpus reads.cap estimate task now in (
      λ e. let made = waits.0 e in
          record { above = some_above reads.wb_dirty reads.global reads.cgroup made.not_free; no_rate = made.no_rate; more_than_error = made.more_than_error },
      λ has. waits.1 (record { not_free = above_not_free reads has.above; no_rate = has.no_rate; more_than_error = has.more_than_error }),
    )

pub strictly_granted : (reads : Reads) (estimate : Estimate) (task : Task) (now : ℕ) → 1 ≤ reads.cap
    → (strict_decision reads estimate task now).kind ≢ Wait → MayBeGranted reads (strict_decision reads estimate task now)
strictly_granted reads estimate task now cap ne =
    let rule = strict_rule reads in
    record {
      through = ⊎_elim (λ free. calm_through reads (calm_when_free reads free)) (⊎_elim (rate_through reads estimate) (within_error reads))
          (by_rule.goes_on_because rule reads.wb_dirty reads.cpus reads.cap estimate task now ne);
      pages = (
        by_rule.leaves_some rule reads.wb_dirty reads.cpus reads.cap estimate task now cap ne,
        by_rule.leaves_at_most rule reads.wb_dirty reads.cpus reads.cap estimate task now,
      );
    }

-- whoever doesn't wait reads at most the context's threshold in the global domain, 8 or the error
pub grants_on_small : GrantsOnSmall
grants_on_small reads estimate task now lawful ne =
    let part : reads.global.wb_thresh ≤ greatest_part reads = global_part reads.global reads.cgroup in
    ⊎_elim
    (λ free. let calm = calm_when_free reads free in let below = middle_below reads.global lawful.0 in let own = calm.0.0 in omega (arith, part, below, own))
    (⊎_elim (λ some. let own = few_or_below reads.global reads.wb_dirty (each_ratio reads estimate some).0 in omega (arith, part, own)) (λ error. omega (arith, error)))
    (by_rule.goes_on_because (strict_rule reads) reads.wb_dirty reads.cpus reads.cap estimate task now ne)

pub strict_checks_within_root : StrictChecksWithinRoot
strict_checks_within_root reads estimate task now free =
    let after = by_rule.free_polls (strict_rule reads) reads.wb_dirty reads.cpus reads.cap estimate task now free in
    let IsWithin : Task → Type 0 = λ writer. EachDomain (λ domain. IsWithinRoot writer.nr_dirtied_pause (domain.wb_thresh - reads.wb_dirty)) reads in
    record {
      anew = ap (λ (writer : Task). writer.nr_dirtied) after;
      root = subst IsWithin (sym after) (polling.least_poll_within (λ domain. domain.wb_thresh) (λ domain. reads.wb_dirty) reads.global reads.cgroup);
    }

pub within_the_domains : WithinTheDomains
within_the_domains reads many =
    let each = least_below (strict_in reads.wb_dirty) reads.global reads.cgroup in
    let global = ratio_within reads.global reads.wb_dirty many in
    let least = each.0 in (
      omega (arith, least, global),
      map_some reads.cgroup each.1 (λ domain less. let within = ratio_within domain reads.wb_dirty many in omega (arith, less, within)),
    )

-- over its threshold in some domain, a context has no ratio
none_of_some : (wb_dirty : ℕ) (global : DomainRead) (cgroup : Option DomainRead) → FEW_PAGES ≤ wb_dirty
    → (global.wb_thresh < wb_dirty) ⊎ IsSomeAnd cgroup (λ domain. domain.wb_thresh < wb_dirty)
    → option_map_or (λ c. min (strict_ratio global wb_dirty) (strict_ratio c wb_dirty)) cgroup (strict_ratio global wb_dirty) ≡ 0
none_of_some wb_dirty global None many (inl over) = none_from_threshold global wb_dirty many (omega (arith, over))
none_of_some wb_dirty global (Some c) many (inl over) =
    let none = none_from_threshold global wb_dirty many (omega (arith, over)) in omega (arith, none)
none_of_some wb_dirty global None many (inr over) = absurd over
none_of_some wb_dirty global (Some c) many (inr over) =
    let none = none_from_threshold c wb_dirty many (omega (arith, over)) in omega (arith, none)

above_middle : (wb_dirty : ℕ) (cgroup : Option DomainRead) → IfSome cgroup (λ domain. IsLawful domain.limits)
    → IsSomeAnd cgroup (λ domain. domain.wb_thresh < wb_dirty) → IsSomeAnd cgroup (IsAboveIn wb_dirty)
above_middle wb_dirty None lawful over = over
above_middle wb_dirty (Some domain) lawful over = inl (let below = middle_below domain lawful in omega (arith, below, over))

pub no_rate_of : (ratio : ℕ) (estimate : Estimate) → ratio ≡ 0 → rate_of ratio estimate ≡ 0
unfolding rate_of
no_rate_of ratio estimate none = rw none (omega arith)

pub over_its_threshold_waits : OverItsThresholdWaits
over_its_threshold_waits reads estimate task now lawful over many more =
    let above : SomeDomain (IsAboveIn reads.wb_dirty) reads = ⊎_elim
    (λ global. inl (inl (let below = middle_below reads.global lawful.0 in omega (arith, below, global))))
    (λ cgroup. inr (above_middle reads.wb_dirty reads.cgroup lawful.1 cgroup)) over in
    (strictly_waits_exactly reads estimate task now).1 (record {
      above = above;
      no_rate = no_rate_of (strict_rule reads).ratio estimate (none_of_some reads.wb_dirty reads.global reads.cgroup many over);
      more_than_error = more;
    })

pub freer_only_on_its_own : FreerOnlyOnItsOwn
unfolding decision_of
freer_only_on_its_own reads estimate task now free not =
    let other = by_rule.free_exactly (domain_rule reads estimate) reads.wb_dirty reads.cpus reads.cap estimate task now in
    record {
      above = above_of reads (is_false (every_domain is_free reads) (λ is. not (other.1 is)));
      calm = (strictly_free_exactly reads estimate task now).0 free;
    }
  where
    is_false : (b : Bool) → (b ≡ true → ⊥) → b ≡ false
    is_false true h = absurd (h refl)
    is_false false h = refl
