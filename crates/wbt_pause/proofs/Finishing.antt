-- The laws of a decision by any rule, of each way that it comes about.
use Rattle.std.proofs.Common.{◌≡◌, ◌≢◌, ℕ, ◌<◌, ◌≤◌, ◌⊎◌, ◌↔◌, Bool, true, false, cond, leb, refl, sym, ap, ◌∙◌, inl, inr, arith, true≢false}
use Rattle.std.proofs.lemmas.Bool.Decides.{nat_tests}
use Rattle.wbt_counter.specs.Batch.{stat_error}
use Rattle.wbt_estimate.specs.declared.estimate.Estimate.{Estimate}
use Rattle.wbt_pause.specs.declared.decision.Decision.{Decision}
use Rattle.wbt_pause.specs.declared.decision.Kind.{Kind}
use Rattle.wbt_pause.specs.declared.decision.Kind.TheVariants.{Exempt, Free, Go, Wait}
use Rattle.wbt_pause.specs.declared.reads.Task.{Task}
use Rattle.wbt_pause.specs.declared.rule.Rule.{Rule}
use Rattle.wbt_pause.specs.Claims.{RuleMakesWait}
use Rattle.wbt_pause.specs.Decision.{decided, exceeded_of, finished, free_task, kind_at_rest, left_of, rate_of}
use Rattle.wbt_pause.specs.Pauses.{longest_pause}
use Rattle.wbt_pause.proofs.Ways.{Way, at_rest, freely, goes, way_of}

-- ---- what is decided

pub kind_of : (rule : Rule) (cap : ℕ) (kind : Kind) (pause : ℕ) (after : Task) (decision : Decision) → decision ≡ decided rule cap kind pause after
    → decision.kind ≡ kind
unfolding decided
kind_of rule cap kind pause after decision is = ap (λ (d : Decision). d.kind) is

pause_of : (rule : Rule) (cap : ℕ) (kind : Kind) (pause : ℕ) (after : Task) (decision : Decision) → decision ≡ decided rule cap kind pause after
    → decision.pause ≡ pause
unfolding decided
pause_of rule cap kind pause after decision is = ap (λ (d : Decision). d.pause) is

task_of : (rule : Rule) (cap : ℕ) (kind : Kind) (pause : ℕ) (after : Task) (decision : Decision) → decision ≡ decided rule cap kind pause after
    → decision.task ≡ after
unfolding decided
task_of rule cap kind pause after decision is = ap (λ (d : Decision). d.task) is

left_is : (rule : Rule) (cap : ℕ) (kind : Kind) (pause : ℕ) (after : Task) (decision : Decision) → decision ≡ decided rule cap kind pause after
    → decision.left ≡ left_of kind after cap
unfolding decided
left_is rule cap kind pause after decision is = ap (λ (d : Decision). d.left) is

mark_is : (rule : Rule) (cap : ℕ) (kind : Kind) (pause : ℕ) (after : Task) (decision : Decision) → decision ≡ decided rule cap kind pause after
    → decision.exceeded ≡ exceeded_of decision.kind rule.over
unfolding decided
mark_is rule cap kind pause after decision is = rw is refl

-- ---- which pages are left

left_at_most : (kind : Kind) (task : Task) (cap : ℕ) → left_of kind task cap ≤ cap
left_at_most Free task cap = omega arith
left_at_most Go task cap = omega arith
left_at_most Exempt task cap = omega arith
left_at_most Wait task cap = omega arith

left_some : (kind : Kind) (task : Task) (cap : ℕ) → 1 ≤ cap → kind ≢ Wait → 1 ≤ left_of kind task cap
left_some Free task cap h ne = omega arith
left_some Go task cap h ne = omega arith
left_some Exempt task cap h ne = omega arith
left_some Wait task cap h ne = absurd (ne refl)

left_of_waiting : (kind : Kind) (task : Task) (cap : ℕ) → kind ≡ Wait → left_of kind task cap ≡ 0
left_of_waiting kind task cap e = rw e refl

abbrev LeavesWithin : (cap : ℕ) (decision : Decision) → Type 0
LeavesWithin cap decision = (decision.left ≤ cap) × (1 ≤ cap → decision.kind ≢ Wait → 1 ≤ decision.left)

leaves : (rule : Rule) (cap : ℕ) (kind : Kind) (pause : ℕ) (after : Task) (decision : Decision) → decision ≡ decided rule cap kind pause after
    → LeavesWithin cap decision
leaves rule cap kind pause after decision is =
    let left : decision.left ≡ left_of kind after cap = left_is rule cap kind pause after decision is in
    let most = left_at_most kind after cap in (
      omega (arith, left, most),
      λ some ne. let least = left_some kind after cap some (λ e. ne (kind_of rule cap kind pause after decision is ∙ e)) in omega (arith, left, least),
    )

none_left : (rule : Rule) (cap : ℕ) (kind : Kind) (pause : ℕ) (after : Task) (decision : Decision) → decision ≡ decided rule cap kind pause after
    → decision.kind ≡ Wait → decision.left ≡ 0
none_left rule cap kind pause after decision is e =
    left_is rule cap kind pause after decision is
    ∙ left_of_waiting kind after cap (sym (kind_of rule cap kind pause after decision is) ∙ e)

-- ---- at rest

abbrev at : Bool → Kind
at b = cond b Exempt Wait

rest_within_error : (wb_dirty cpus : ℕ) → kind_at_rest wb_dirty cpus ≢ Wait → wb_dirty ≤ stat_error cpus
rest_within_error wb_dirty cpus =
    elim (leb wb_dirty (stat_error cpus)) as (λ b. (b ≡ true → wb_dirty ≤ stat_error cpus) → at b ≢ Wait → wb_dirty ≤ stat_error cpus)
    [ true ↦ λ is ne. is refl | false ↦ λ is ne. absurd (ne refl) ] (λ t. grind (arith, nat_tests))

rest_waits : (wb_dirty cpus : ℕ) → kind_at_rest wb_dirty cpus ≡ Wait → stat_error cpus < wb_dirty
rest_waits wb_dirty cpus =
    elim (leb wb_dirty (stat_error cpus)) as (λ b. (b ≡ false → stat_error cpus < wb_dirty) → at b ≡ Wait → stat_error cpus < wb_dirty)
    [ true ↦ λ is e. cc | false ↦ λ is e. is refl ] (λ t. grind (arith, nat_tests))

waits_at_rest : (wb_dirty cpus : ℕ) → stat_error cpus < wb_dirty → kind_at_rest wb_dirty cpus ≡ Wait
waits_at_rest wb_dirty cpus h =
    let test : leb wb_dirty (stat_error cpus) ≡ false = grind (arith, nat_tests) in
    rw test refl

rest_not_free : (wb_dirty cpus : ℕ) → kind_at_rest wb_dirty cpus ≡ Free → ⊥
rest_not_free wb_dirty cpus =
    elim (leb wb_dirty (stat_error cpus)) as (λ b. at b ≡ Free → ⊥) [ true ↦ λ e. cc | false ↦ λ e. cc ]

-- ---- of each way

module _ (rule : Rule) (wb_dirty cpus cap : ℕ) (estimate : Estimate) (now : ℕ) (decision : Decision) where
  way_pauses : Way rule wb_dirty cpus cap estimate now decision → decision.pause ≤ longest_pause wb_dirty estimate.avg
  way_pauses (freely free is) = let e = pause_of rule cap Free 0 _ decision is in omega (arith, e)
  way_pauses (at_rest after held none is) = let e = pause_of rule cap (kind_at_rest wb_dirty cpus) _ after decision is in omega (arith, e)
  way_pauses (goes pause after held some within is) = let e = pause_of rule cap Go pause after decision is in omega (arith, e, within)

  way_is_free : Way rule wb_dirty cpus cap estimate now decision → (decision.kind ≡ Free) ↔ (rule.free ≡ true)
  way_is_free (freely free is) = (λ e. free, λ e. kind_of rule cap Free 0 _ decision is)
  way_is_free (at_rest after held none is) = (
    λ e. absurd (rest_not_free wb_dirty cpus (sym (kind_of rule cap (kind_at_rest wb_dirty cpus) _ after decision is) ∙ e)),
    λ e. absurd (true≢false (sym e ∙ held)),
  )
  way_is_free (goes pause after held some within is) =
      let go = kind_of rule cap Go pause after decision is in (λ e. cc, λ e. absurd (true≢false (sym e ∙ held)))

  way_polls : Way rule wb_dirty cpus cap estimate now decision → decision.kind ≡ Free → decision.task ≡ free_task rule.poll now
  way_polls (freely free is) e = task_of rule cap Free 0 _ decision is
  way_polls (at_rest after held none is) e =
      absurd (rest_not_free wb_dirty cpus (sym (kind_of rule cap (kind_at_rest wb_dirty cpus) _ after decision is) ∙ e))
  way_polls (goes pause after held some within is) e = let go = kind_of rule cap Go pause after decision is in cc

  way_waits : Way rule wb_dirty cpus cap estimate now decision → (decision.kind ≡ Wait) ↔ RuleMakesWait rule wb_dirty cpus estimate
  way_waits (freely free is) =
      let kind = kind_of rule cap Free 0 _ decision is in
      (λ e. cc, λ has. absurd (true≢false (sym free ∙ has.not_free)))
  way_waits (at_rest after held none is) =
      let rest = kind_of rule cap (kind_at_rest wb_dirty cpus) _ after decision is in (
        λ e. record { not_free = held; no_rate = none; more_than_error = rest_waits wb_dirty cpus (sym rest ∙ e) },
        λ has. rest ∙ waits_at_rest wb_dirty cpus has.more_than_error,
      )
  way_waits (goes pause after held some within is) =
      let go = kind_of rule cap Go pause after decision is in
      (λ e. cc, λ has. absurd (omega (arith, has.no_rate)))

  way_leaves : Way rule wb_dirty cpus cap estimate now decision → LeavesWithin cap decision
  way_leaves (freely free is) = leaves rule cap Free 0 _ decision is
  way_leaves (at_rest after held none is) = leaves rule cap (kind_at_rest wb_dirty cpus) _ after decision is
  way_leaves (goes pause after held some within is) = leaves rule cap Go pause after decision is

  way_has_none : Way rule wb_dirty cpus cap estimate now decision → decision.kind ≡ Wait → decision.left ≡ 0
  way_has_none (freely free is) e = none_left rule cap Free 0 _ decision is e
  way_has_none (at_rest after held none is) e = none_left rule cap (kind_at_rest wb_dirty cpus) _ after decision is e
  way_has_none (goes pause after held some within is) e = none_left rule cap Go pause after decision is e

  way_marks : Way rule wb_dirty cpus cap estimate now decision → decision.exceeded ≡ exceeded_of decision.kind rule.over
  way_marks (freely free is) = mark_is rule cap Free 0 _ decision is
  way_marks (at_rest after held none is) = mark_is rule cap (kind_at_rest wb_dirty cpus) _ after decision is
  way_marks (goes pause after held some within is) = mark_is rule cap Go pause after decision is

  way_goes_on : Way rule wb_dirty cpus cap estimate now decision → decision.kind ≢ Wait
      → (rule.free ≡ true) ⊎ ((0 < rate_of rule.ratio estimate) ⊎ (wb_dirty ≤ stat_error cpus))
  way_goes_on (freely free is) ne = inl free
  way_goes_on (at_rest after held none is) ne =
      inr (inr (rest_within_error wb_dirty cpus (λ e. ne (kind_of rule cap (kind_at_rest wb_dirty cpus) _ after decision is ∙ e))))
  way_goes_on (goes pause after held some within is) ne = inr (inl some)

-- ---- of every decision by a rule

module _ (rule : Rule) (wb_dirty cpus cap : ℕ) (estimate : Estimate) (task : Task) (now : ℕ) where
  abbrev pub its : Decision
  its = finished rule wb_dirty cpus cap estimate task now

  its_way : Way rule wb_dirty cpus cap estimate now its
  its_way = way_of rule wb_dirty cpus cap estimate task now

  -- a writer pauses at most as long as the longest pause of its context
  pub pauses_within : its.pause ≤ longest_pause wb_dirty estimate.avg
  pauses_within = way_pauses rule wb_dirty cpus cap estimate now its its_way

  -- it is free exactly where the rule says so
  pub free_exactly : (its.kind ≡ Free) ↔ (rule.free ≡ true)
  free_exactly = way_is_free rule wb_dirty cpus cap estimate now its its_way

  -- and then counts anew, with the rule's allowance
  pub free_polls : its.kind ≡ Free → its.task ≡ free_task rule.poll now
  free_polls = way_polls rule wb_dirty cpus cap estimate now its its_way

  -- it waits exactly where the rule makes it
  pub waits_exactly : (its.kind ≡ Wait) ↔ RuleMakesWait rule wb_dirty cpus estimate
  waits_exactly = way_waits rule wb_dirty cpus cap estimate now its its_way

  -- and has no page left then
  pub waiting_has_none : its.kind ≡ Wait → its.left ≡ 0
  waiting_has_none = way_has_none rule wb_dirty cpus cap estimate now its its_way

  -- at most cap pages are left, and one at least to whoever doesn't wait
  pub leaves_at_most : its.left ≤ cap
  leaves_at_most = (way_leaves rule wb_dirty cpus cap estimate now its its_way).0

  pub leaves_some : 1 ≤ cap → its.kind ≢ Wait → 1 ≤ its.left
  leaves_some = (way_leaves rule wb_dirty cpus cap estimate now its its_way).1

  -- the mark follows from the kind and the rule
  pub marks : its.exceeded ≡ exceeded_of its.kind rule.over
  marks = way_marks rule wb_dirty cpus cap estimate now its its_way

  -- whoever doesn't wait is free, has a rate, or is in a context with no more pages than its reading may be off
  pub goes_on_because : its.kind ≢ Wait → (rule.free ≡ true) ⊎ ((0 < rate_of rule.ratio estimate) ⊎ (wb_dirty ≤ stat_error cpus))
  goes_on_because = way_goes_on rule wb_dirty cpus cap estimate now its its_way
