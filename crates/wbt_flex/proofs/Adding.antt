-- Ageing takes away and additions add: what a part and the domain have is at most what was added, and the period is the
-- sum of those made.
use Rattle.std.proofs.Common.{◌≡◌, ℕ, ◌+◌, ◌-◌, ◌/◌, ◌^◌, ◌≤◌, true, false, cond, eqb, [], ◌∷◌, Some, None, unwrap_or, arith}
use Rattle.std.proofs.lemmas.List.Sums.{sum_by-cons}
use Rattle.std.proofs.lemmas.Nat.{shr_le}
use Rattle.wbt_flex.specs.declared.half.Half.{Half}
use Rattle.wbt_flex.specs.Proportions.{added, aged, may_age}
use Rattle.wbt_flex.specs.Eager.{Lazy, Step, add_domain, add_part, lazy_after, lazy_opening, lazy_step, new_period}
use Rattle.wbt_flex.specs.Made.{domain_events, part_events, period_made, periods_made}
use Rattle.wbt_flex.specs.Laws.{DomainIsAtMostAdded, FractionIsAtMostAdded, PartIsAtMostAdded, PeriodIsMade}

aged_is_less : (half : Half) (period : ℕ) → (aged half period).events ≤ half.events
aged_is_less half period = shr_le half.events (period - half.period)

-- ---- one step

part_grows : (lazy : Lazy) (step : Step) (part : ℕ) → ((lazy_step lazy step).parts part).events ≤ (lazy.parts part).events + part_events part step
part_grows lazy (add_part other n) part =
    let less : (aged (lazy.parts part) lazy.domain.period).events ≤ (lazy.parts part).events = aged_is_less (lazy.parts part) lazy.domain.period in
    elim (eqb part other) as (λ b. (cond b (added (aged (lazy.parts part) lazy.domain.period) n) (lazy.parts part)).events ≤ (lazy.parts part).events + cond b n 0)
    [ true ↦ omega arith | false ↦ omega arith ]
part_grows lazy (add_domain n) part = omega arith
part_grows lazy (new_period k) part = omega arith

domain_grows : (lazy : Lazy) (step : Step) → (lazy_step lazy step).domain.events ≤ lazy.domain.events + domain_events step
domain_grows lazy (add_part other n) = omega arith
domain_grows lazy (add_domain n) = omega arith
domain_grows lazy (new_period k) =
    let less : lazy.domain.events / 2 ^ k ≤ lazy.domain.events = shr_le lazy.domain.events k in
    elim (may_age lazy.domain.events lazy.domain.period k) as (λ b. (unwrap_or (cond b (Some (record { period = lazy.domain.period + k; events = lazy.domain.events / 2 ^ k })) None) lazy.domain).events ≤ lazy.domain.events + 0)
    [ true ↦ omega arith | false ↦ omega arith ]

period_goes_by : (lazy : Lazy) (step : Step) → (lazy_step lazy step).domain.period ≡ lazy.domain.period + period_made lazy step
period_goes_by lazy (add_part other n) = omega arith
period_goes_by lazy (add_domain n) = omega arith
period_goes_by lazy (new_period k) =
    elim (may_age lazy.domain.events lazy.domain.period k) as (λ b. (unwrap_or (cond b (Some (record { period = lazy.domain.period + k; events = lazy.domain.events / 2 ^ k })) None) lazy.domain).period ≡ lazy.domain.period + cond b k 0)
    [ true ↦ omega arith | false ↦ omega arith ]

-- ---- any steps

pub part_is_at_most_added : PartIsAtMostAdded
part_is_at_most_added lazy [] part = omega arith
part_is_at_most_added lazy (step ∷ steps) part =
    omega (arith, part_grows lazy step part, part_is_at_most_added (lazy_step lazy step) steps part, sum_by-cons (part_events part) step steps)

pub domain_is_at_most_added : DomainIsAtMostAdded
domain_is_at_most_added lazy [] = omega arith
domain_is_at_most_added lazy (step ∷ steps) =
    omega (arith, domain_grows lazy step, domain_is_at_most_added (lazy_step lazy step) steps, sum_by-cons domain_events step steps)

pub fraction_is_at_most_added : FractionIsAtMostAdded
fraction_is_at_most_added steps part =
    let less = aged_is_less ((lazy_after lazy_opening steps).parts part) (lazy_after lazy_opening steps).domain.period in
    omega (arith, less, part_is_at_most_added lazy_opening steps part)

pub period_is_made : PeriodIsMade
unfolding periods_made
period_is_made lazy [] = omega arith
period_is_made lazy (step ∷ steps) =
    omega (arith, period_goes_by lazy step, period_is_made (lazy_step lazy step) steps)
