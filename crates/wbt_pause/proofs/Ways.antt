-- Every decision is one of three: free, at rest for want of a rate, or going on at a rate.
use Rattle.std.proofs.Common.{◌≡◌, ℕ, ◌+◌, ◌-◌, ◌<◌, ◌≤◌, min, true, false, cond, eqb, ltb, ℤ, pos, unsigned_abs, refl, arith}
use Rattle.std.specs.Prelude.{int_lt}
use Rattle.std.proofs.lemmas.Bool.Decides.{nat_tests}
use Rattle.wbt_estimate.specs.declared.estimate.Estimate.{Estimate}
use Rattle.wbt_pause.specs.declared.decision.Decision.{Decision}
use Rattle.wbt_pause.specs.declared.decision.Kind.TheVariants.{Free, Go}
use Rattle.wbt_pause.specs.declared.pauses.MinPause.{MinPause}
use Rattle.wbt_pause.specs.declared.reads.Task.{Task}
use Rattle.wbt_pause.specs.declared.rule.Rule.{Rule}
use Rattle.wbt_pause.specs.Decision.{cut_decision, decided, due_pause, finished, free_task, go_decision, kind_at_rest, paused, period_of, rate_of, throttled, unpaused}
use Rattle.wbt_pause.specs.Pauses.{least_pause, longest_pause}

-- the three ways of a decision by a rule
pub data Way (rule : Rule) (wb_dirty cpus cap : ℕ) (estimate : Estimate) (now : ℕ) (decision : Decision) : Type 0 where
  freely : rule.free ≡ true → decision ≡ decided rule cap Free 0 (free_task rule.poll now) → Way rule wb_dirty cpus cap estimate now decision
  at_rest : (after : Task) → rule.free ≡ false → rate_of rule.ratio estimate ≡ 0
      → decision ≡ decided rule cap (kind_at_rest wb_dirty cpus) (longest_pause wb_dirty estimate.avg) after
      → Way rule wb_dirty cpus cap estimate now decision
  goes : (pause : ℕ) (after : Task) → rule.free ≡ false → 0 < rate_of rule.ratio estimate → pause ≤ longest_pause wb_dirty estimate.avg
      → decision ≡ decided rule cap Go pause after → Way rule wb_dirty cpus cap estimate now decision

-- a decision to go on, with a pause that is at most the longest
abbrev GoesWithin : (rule : Rule) (cap longest : ℕ) (decision : Decision) → Type 0
GoesWithin rule cap longest decision = (pause : ℕ) × (after : Task) × (pause ≤ longest) × (decision ≡ decided rule cap Go pause after)

cut_goes : (rule : Rule) (cap due longest pages now : ℕ) → GoesWithin rule cap longest (cut_decision rule cap due longest pages now)
unfolding cut_decision
cut_goes rule cap due longest pages now =
    elim (ltb longest due) as (λ b. (b ≡ false → due ≤ longest) → GoesWithin rule cap longest (cond b (decided rule cap Go longest (paused (now + min (due - longest) longest) longest pages)) (decided rule cap Go due (paused now due pages)))) [
      | true ↦ λ is. (longest, paused (now + min (due - longest) longest) longest pages, omega arith, refl)
      | false ↦ λ is. (due, paused now due pages, is refl, refl)
    ] (λ t. grind (arith, nat_tests))

go_goes : (rule : Rule) (cap rate longest : ℕ) (least : MinPause) (task : Task) (now : ℕ)
    → GoesWithin rule cap longest (go_decision rule cap rate longest least task now)
unfolding go_decision
go_goes rule cap rate longest least task now =
    let period : ℕ = period_of rate task in
    let due : ℤ = due_pause period task.paused_when now in
    elim (int_lt due (pos least.pause)) as (λ b. GoesWithin rule cap longest (cond b (decided rule cap Go 0 (unpaused due period now task)) (cut_decision rule cap (unsigned_abs due) longest least.pages now))) [
      | true ↦ (0, unpaused due period now task, omega arith, refl)
      | false ↦ cut_goes rule cap (unsigned_abs due) longest least.pages now
    ]

throttled_way : (rule : Rule) (wb_dirty cpus cap : ℕ) (estimate : Estimate) (task : Task) (now : ℕ) → rule.free ≡ false
    → Way rule wb_dirty cpus cap estimate now (throttled rule wb_dirty cpus cap estimate task now)
unfolding throttled
throttled_way rule wb_dirty cpus cap estimate task now above =
    let rate : ℕ = rate_of rule.ratio estimate in
    let longest : ℕ = longest_pause wb_dirty estimate.avg in
    let least : MinPause = least_pause longest estimate.avg estimate.ratelimit rate in
    let went : GoesWithin rule cap longest (go_decision rule cap rate longest least task now) = go_goes rule cap rate longest least task now in
    elim (eqb rate 0) as (λ b. (b ≡ true → rate ≡ 0) → (b ≡ false → 0 < rate) → Way rule wb_dirty cpus cap estimate now (cond b (decided rule cap (kind_at_rest wb_dirty cpus) longest (paused now longest least.pages)) (go_decision rule cap rate longest least task now))) [
      | true ↦ λ none some. at_rest (paused now longest least.pages) above (none refl) refl
      | false ↦ λ none some. goes went.0 went.1 above (some refl) went.2 went.3
    ] (λ t. grind (arith, nat_tests)) (λ t. grind (arith, nat_tests))

pub way_of : (rule : Rule) (wb_dirty cpus cap : ℕ) (estimate : Estimate) (task : Task) (now : ℕ)
    → Way rule wb_dirty cpus cap estimate now (finished rule wb_dirty cpus cap estimate task now)
way_of rule wb_dirty cpus cap estimate task now =
    elim rule.free as (λ b. rule.free ≡ b → Way rule wb_dirty cpus cap estimate now (cond b (decided rule cap Free 0 (free_task rule.poll now)) (throttled rule wb_dirty cpus cap estimate task now))) [
      | true ↦ λ is. freely is refl
      | false ↦ λ is. throttled_way rule wb_dirty cpus cap estimate task now is
    ] refl
