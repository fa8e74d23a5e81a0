-- A decision leaves a writer an allowance of at most 2 ^ 42 pages, where it had one and counts no more pages than a run has steps.
use Rattle.std.proofs.Common.{◌≡◌, ℕ, ◌+◌, ◌-◌, ◌^◌, ◌<◌, ◌≤◌, min, Bool, true, false, cond, eqb, leb, ltb, ℤ, pos, unsigned_abs, refl, subst, arith}
use Rattle.std.specs.Prelude.{int_lt, neg_ℤ, ◌-ℤ◌}
use Rattle.std.proofs.lemmas.Bool.Decides.{nat_tests}
use Rattle.std.proofs.lemmas.Int.{ints}
use Rattle.wbt_num.specs.Limits.{IsLawful}
use Rattle.wbt_replay_order.proofs.Common.{MAX_LIMIT, Estimate, Decision, Reads, cut_decision, decided, decision_of, go_decision, rate_of, throttled, least_pause, longest_pause, most_ever, decision_for}
use Rattle.wbt_pause.specs.declared.decision.Kind.TheVariants.{Go}
use Rattle.wbt_pause.specs.declared.pauses.MinPause.{MinPause}
use Rattle.wbt_pause.specs.declared.reads.Task.{Task}
use Rattle.wbt_pause.specs.declared.rule.Rule.{Rule}
use Rattle.wbt_pause.specs.Decision.{domain_rule, due_pause, finished}
use Rattle.wbt_pause.specs.Decision.{kind_at_rest, paused, period_of, unpaused}
use Rattle.wbt_pause.specs.Pauses.{poll_pages}
use Rattle.wbt_pause.proofs.Small as small
use Rattle.wbt_position.specs.declared.ratio.DomainRead.{DomainRead}
use Rattle.wbt_strict.specs.Decision.{strict_decision, strict_rule}

abbrev LeavesSmall : (decision : Decision) → Type 0
LeavesSmall decision = decision.task.nr_dirtied_pause ≤ 2 ^ 42

either : (test : Bool) (left right : Decision) → LeavesSmall left → LeavesSmall right → LeavesSmall (cond test left right)
either true left right h g = h
either false left right h g = g

one_of : (test : Bool) (left right : Task) → (test ≡ true → left.nr_dirtied_pause ≤ 2 ^ 42) → right.nr_dirtied_pause ≤ 2 ^ 42
    → (cond test left right).nr_dirtied_pause ≤ 2 ^ 42
one_of true left right h g = h refl
one_of false left right h g = g

-- ---- the pages of the least pause, as a decision leaves them to whoever has to pause for that long

-- a writer that has dirtied nothing, and whose last pause ends more than so many ticks from now
abbrev early : (now ticks : ℕ) → Task
early now ticks = record { nr_dirtied = 0; nr_dirtied_pause = 0; paused_when = now + ticks + 1 }

-- its pause is due for as long at least
not_below : (period when now ticks : ℕ) → now + ticks < when → int_lt (due_pause period when now) (pos ticks) ≡ true → ⊥
not_below period when now ticks h = cut (eqb when 0) (λ t. grind (arith, nat_tests))
  where
    cut : (b : Bool) → (b ≡ true → when ≡ 0) → int_lt (cond b (pos period) (pos period -ℤ (pos now -ℤ pos when))) (pos ticks) ≡ true → ⊥
    cut true none e = absurd (omega (arith, h, none refl))
    cut false none e = absurd (omega (arith, ints, h, e))

early_pauses : (rule : Rule) (cap rate longest : ℕ) (least : MinPause) (now : ℕ)
    → (go_decision rule cap rate longest least (early now least.pause) now).task.nr_dirtied_pause ≡ least.pages
unfolding go_decision cut_decision decided
early_pauses rule cap rate longest least now =
    by_due (int_lt due (pos least.pause)) (not_below period (now + least.pause + 1) now least.pause (omega arith))
  where
    period : ℕ
    period = period_of rate (early now least.pause)

    due : ℤ
    due = due_pause period (now + least.pause + 1) now

    ticks : ℕ
    ticks = unsigned_abs due

    by_cut : (b : Bool)
        → (cond b (decided rule cap Go longest (paused (now + min (ticks - longest) longest) longest least.pages))
        (decided rule cap Go ticks (paused now ticks least.pages))).task.nr_dirtied_pause ≡ least.pages
    by_cut true = refl
    by_cut false = refl

    by_due : (b : Bool) → (b ≡ true → ⊥)
        → (cond b (decided rule cap Go 0 (unpaused due period now (early now least.pause)))
        (cut_decision rule cap ticks longest least.pages now)).task.nr_dirtied_pause ≡ least.pages
    by_due true none = absurd (none refl)
    by_due false none = by_cut (ltb longest ticks)

least_small : (rule : Rule) (wb_dirty : ℕ) (estimate : Estimate) → rule.poll ≤ 2 ^ 42 → estimate.ratelimit < 2 ^ 44
    → (least_pause (longest_pause wb_dirty estimate.avg) estimate.avg estimate.ratelimit (rate_of rule.ratio estimate)).pages ≤ 2 ^ 42
unfolding throttled decided
least_small rule wb_dirty estimate poll r =
    by_rate (eqb rate 0) (small.finished_small busy wb_dirty 0 0 estimate (early 0 least.pause) 0 poll r (omega arith) (omega arith))
  where
    -- the rule, where nobody is free
    busy : Rule
    busy = record rule { free = false }

    rate : ℕ
    rate = rate_of rule.ratio estimate

    longest : ℕ
    longest = longest_pause wb_dirty estimate.avg

    least : MinPause
    least = least_pause longest estimate.avg estimate.ratelimit rate

    by_rate : (b : Bool)
        → LeavesSmall (cond b (decided busy 0 (kind_at_rest wb_dirty 0) longest (paused 0 longest least.pages))
        (go_decision busy 0 rate longest least (early 0 least.pause) 0)) → least.pages ≤ 2 ^ 42
    by_rate true h = h
    by_rate false h = subst (λ (n : ℕ). n ≤ 2 ^ 42) (early_pauses busy 0 rate longest least 0) h

-- ---- decisions

module _ (task : Task) (now : ℕ) (few : task.nr_dirtied ≤ most_ever) (fits : task.nr_dirtied_pause ≤ 2 ^ 42) where
  unpaused_small : (due : ℤ) (period : ℕ) → (unpaused due period now task).nr_dirtied_pause ≤ 2 ^ 42
  unpaused_small due period =
      one_of (int_lt due (neg_ℤ (pos 1000))) _ _ (λ t. fits)
      (one_of (ltb 0 period) _ _ (λ t. fits)
      (one_of (leb task.nr_dirtied_pause task.nr_dirtied) _ _
      (λ t. let l : task.nr_dirtied_pause ≤ task.nr_dirtied = grind (arith, nat_tests) in omega (arith, l, few)) fits))

  cut_small : (rule : Rule) (cap due longest pages : ℕ) → pages ≤ 2 ^ 42 → LeavesSmall (cut_decision rule cap due longest pages now)
  unfolding cut_decision decided
  cut_small rule cap due longest pages h = either (ltb longest due) _ _ h h

  go_small : (rule : Rule) (cap rate longest : ℕ) (least : MinPause) → least.pages ≤ 2 ^ 42 → LeavesSmall (go_decision rule cap rate longest least task now)
  unfolding go_decision decided
  go_small rule cap rate longest least h =
      let period : ℕ = period_of rate task in
      let due : ℤ = due_pause period task.paused_when now in
      either (int_lt due (pos least.pause)) _ _ (unpaused_small due period) (cut_small rule cap (unsigned_abs due) longest least.pages h)

  throttled_small : (rule : Rule) (wb_dirty cpus cap : ℕ) (estimate : Estimate) → rule.poll ≤ 2 ^ 42 → estimate.ratelimit < 2 ^ 44
      → LeavesSmall (throttled rule wb_dirty cpus cap estimate task now)
  unfolding throttled decided
  throttled_small rule wb_dirty cpus cap estimate poll r =
      let rate : ℕ = rate_of rule.ratio estimate in
      let longest : ℕ = longest_pause wb_dirty estimate.avg in
      let pages = least_small rule wb_dirty estimate poll r in
      either (eqb rate 0) _ _ pages (go_small rule cap rate longest (least_pause longest estimate.avg estimate.ratelimit rate) pages)

  finished_small : (rule : Rule) (wb_dirty cpus cap : ℕ) (estimate : Estimate) → rule.poll ≤ 2 ^ 42 → estimate.ratelimit < 2 ^ 44
      → LeavesSmall (finished rule wb_dirty cpus cap estimate task now)
  unfolding decided
  finished_small rule wb_dirty cpus cap estimate poll r = either rule.free _ _ poll (throttled_small rule wb_dirty cpus cap estimate poll r)

  module _ (reads : Reads) (estimate : Estimate) (lawful : IsLawful reads.global.limits)
      (part : reads.global.wb_thresh ≤ reads.global.limits.thresh) (r : estimate.ratelimit < 2 ^ 44) where
    thresh_fits : reads.global.limits.thresh ≤ MAX_LIMIT
    thresh_fits = omega (arith, lawful.thresh_below_hard, lawful.hard_in_range)

    strictly_small : LeavesSmall (strict_decision reads estimate task now)
    strictly_small =
        let poll : DomainRead → ℕ = λ domain. poll_pages domain.wb_thresh reads.wb_dirty in
        let global : poll reads.global ≤ 2 ^ 42 = small.poll_small reads.global.wb_thresh reads.wb_dirty (omega (arith, part, thresh_fits)) in
        finished_small (strict_rule reads) reads.wb_dirty reads.cpus reads.cap estimate
        (small.least_poll_small poll (poll reads.global) reads.cgroup global) r

    plainly_small : LeavesSmall (decision_of reads estimate task now)
    unfolding decision_of
    plainly_small =
        let poll : DomainRead → ℕ = λ domain. poll_pages domain.limits.thresh domain.dirty in
        let global : poll reads.global ≤ 2 ^ 42 = small.poll_small reads.global.limits.thresh reads.global.dirty thresh_fits in
        finished_small (domain_rule reads estimate) reads.wb_dirty reads.cpus reads.cap estimate
        (small.least_poll_small poll (poll reads.global) reads.cgroup global) r

    -- a decision leaves its writer an allowance of at most 2 ^ 42 pages
    pub allowance_small : (strict : Bool) → (decision_for strict reads estimate task now).task.nr_dirtied_pause ≤ 2 ^ 42
    unfolding decision_for
    allowance_small true = strictly_small
    allowance_small false = plainly_small
