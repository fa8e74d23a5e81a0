-- When a pause counts as ended.
use Rattle.std.proofs.Common.{◌≡◌, ◌≢◌, ℕ, ◌+◌, ◌-◌, ◌<◌, ◌≤◌, min, true, false, cond, eqb, leb, ltb, ℤ, pos, negsuc, unsigned_abs, refl, arith}
use Rattle.std.specs.Prelude.{int_lt}
use Rattle.std.proofs.lemmas.Bool.Decides.{nat_tests}
use Rattle.wbt_counter.specs.Batch.{stat_error}
use Rattle.wbt_estimate.specs.declared.estimate.Estimate.{Estimate}
use Rattle.wbt_pause.specs.declared.decision.Decision.{Decision}
use Rattle.wbt_pause.specs.declared.decision.Kind.TheVariants.{Exempt, Free, Go, Wait}
use Rattle.wbt_pause.specs.declared.pauses.MinPause.{MinPause}
use Rattle.wbt_pause.specs.declared.reads.Task.{Task}
use Rattle.wbt_pause.specs.declared.rule.Rule.{Rule}
use Rattle.wbt_pause.specs.Claims.{PausesAtRate}
use Rattle.wbt_pause.specs.Decision.{cut_decision, decided, decision_of, domain_rule, due_pause, finished, free_task, go_decision, kind_at_rest, paused, period_of, rate_of, throttled, unpaused}
use Rattle.wbt_pause.specs.Laws.{CutPauseMovesOn, OtherPausesEnd}
use Rattle.wbt_pause.specs.Pauses.{least_pause, longest_pause}

-- ---- a pause that is cut

-- of a pause that is due the longest is made, and what is left over moves the moment on
abbrev IsCut : (due longest now : ℕ) (decision : Decision) → Type 0
IsCut due longest now decision =
    (decision.pause ≡ min due longest) × (decision.task.paused_when ≡ now + decision.pause + min (due - longest) longest)

cut_is : (rule : Rule) (cap due longest pages now : ℕ) → IsCut due longest now (cut_decision rule cap due longest pages now)
unfolding cut_decision decided
cut_is rule cap due longest pages now =
    elim (ltb longest due) as (λ b. (b ≡ true → longest < due) → (b ≡ false → due ≤ longest)
    → IsCut due longest now (cond b (decided rule cap Go longest (paused (now + min (due - longest) longest) longest pages)) (decided rule cap Go due (paused now due pages)))) [
      | true ↦ λ is not. (omega (arith, is refl), omega arith)
      | false ↦ λ is not. (omega (arith, not refl), omega (arith, not refl))
    ] (λ t. grind (arith, nat_tests)) (λ t. grind (arith, nat_tests))

-- what isn't below a number from 0 on isn't negative
not_below : (due : ℤ) (least : ℕ) → int_lt due (pos least) ≡ false → due ≡ pos (unsigned_abs due)
not_below (pos due) least h = refl
not_below (negsuc due) least h = absurd cc

abbrev MovesOn : (rate longest : ℕ) (task : Task) (now : ℕ) (decision : Decision) → Type 0
MovesOn rate longest task now decision = (due : ℕ) × (due_pause (period_of rate task) task.paused_when now ≡ pos due) × IsCut due longest now decision

go_moves : (rule : Rule) (cap rate longest : ℕ) (least : MinPause) (task : Task) (now : ℕ) → 1 ≤ (go_decision rule cap rate longest least task now).pause
    → MovesOn rate longest task now (go_decision rule cap rate longest least task now)
unfolding go_decision decided
go_moves rule cap rate longest least task now =
    let period : ℕ = period_of rate task in
    let due : ℤ = due_pause period task.paused_when now in
    elim (int_lt due (pos least.pause)) as (λ b. int_lt due (pos least.pause) ≡ b
    → 1 ≤ (cond b (decided rule cap Go 0 (unpaused due period now task)) (cut_decision rule cap (unsigned_abs due) longest least.pages now)).pause
    → MovesOn rate longest task now (cond b (decided rule cap Go 0 (unpaused due period now task)) (cut_decision rule cap (unsigned_abs due) longest least.pages now))) [
      | true ↦ λ is some. absurd (omega (arith, some))
      | false ↦ λ is some. (unsigned_abs due, not_below due least.pause is, cut_is rule cap (unsigned_abs due) longest least.pages now)
    ] refl

rest_not_go : (wb_dirty cpus : ℕ) → kind_at_rest wb_dirty cpus ≡ Go → ⊥
rest_not_go wb_dirty cpus =
    elim (leb wb_dirty (stat_error cpus)) as (λ b. cond b Exempt Wait ≡ Go → ⊥) [ true ↦ λ e. cc | false ↦ λ e. cc ]

throttled_moves : (rule : Rule) (wb_dirty cpus cap : ℕ) (estimate : Estimate) (task : Task) (now : ℕ)
    → (throttled rule wb_dirty cpus cap estimate task now).kind ≡ Go → 1 ≤ (throttled rule wb_dirty cpus cap estimate task now).pause
    → MovesOn (rate_of rule.ratio estimate) (longest_pause wb_dirty estimate.avg) task now (throttled rule wb_dirty cpus cap estimate task now)
unfolding throttled decided
throttled_moves rule wb_dirty cpus cap estimate task now =
    let rate : ℕ = rate_of rule.ratio estimate in
    let longest : ℕ = longest_pause wb_dirty estimate.avg in
    let least : MinPause = least_pause longest estimate.avg estimate.ratelimit rate in
    elim (eqb rate 0) as (λ b. (cond b (decided rule cap (kind_at_rest wb_dirty cpus) longest (paused now longest least.pages)) (go_decision rule cap rate longest least task now)).kind ≡ Go
    → 1 ≤ (cond b (decided rule cap (kind_at_rest wb_dirty cpus) longest (paused now longest least.pages)) (go_decision rule cap rate longest least task now)).pause
    → MovesOn rate longest task now (cond b (decided rule cap (kind_at_rest wb_dirty cpus) longest (paused now longest least.pages)) (go_decision rule cap rate longest least task now))) [
      | true ↦ λ e some. absurd (rest_not_go wb_dirty cpus e)
      | false ↦ λ e some. go_moves rule cap rate longest least task now some
    ]

as_due : (ratio wb_dirty : ℕ) (estimate : Estimate) (task : Task) (now : ℕ) (decision : Decision)
    → MovesOn (rate_of ratio estimate) (longest_pause wb_dirty estimate.avg) task now decision → PausesAtRate ratio wb_dirty estimate task now decision
as_due ratio wb_dirty estimate task now decision moves = record { due = moves.0; is_due = moves.1; cut = moves.2.0; left_over = moves.2.1 }

-- by any rule
pub finished_moves_on : (rule : Rule) (wb_dirty cpus cap : ℕ) (estimate : Estimate) (task : Task) (now : ℕ)
    → (finished rule wb_dirty cpus cap estimate task now).kind ≡ Go → 1 ≤ (finished rule wb_dirty cpus cap estimate task now).pause
    → PausesAtRate rule.ratio wb_dirty estimate task now (finished rule wb_dirty cpus cap estimate task now)
unfolding decided
finished_moves_on rule wb_dirty cpus cap estimate task now =
    elim rule.free as (λ b. (cond b (decided rule cap Free 0 (free_task rule.poll now)) (throttled rule wb_dirty cpus cap estimate task now)).kind ≡ Go
    → 1 ≤ (cond b (decided rule cap Free 0 (free_task rule.poll now)) (throttled rule wb_dirty cpus cap estimate task now)).pause
    → PausesAtRate rule.ratio wb_dirty estimate task now (cond b (decided rule cap Free 0 (free_task rule.poll now)) (throttled rule wb_dirty cpus cap estimate task now))) [
      | true ↦ λ e some. absurd cc
      | false ↦ λ e some. as_due rule.ratio wb_dirty estimate task now _ (throttled_moves rule wb_dirty cpus cap estimate task now e some)
    ]

pub cut_pause_moves_on : CutPauseMovesOn
unfolding decision_of
cut_pause_moves_on reads estimate task now =
    finished_moves_on (domain_rule reads estimate) reads.wb_dirty reads.cpus reads.cap estimate task now

-- ---- any other

abbrev EndsThen : (now : ℕ) (decision : Decision) → Type 0
EndsThen now decision = decision.kind ≢ Go → decision.task.paused_when ≡ now + decision.pause

cut_goes : (rule : Rule) (cap due longest pages now : ℕ) → (cut_decision rule cap due longest pages now).kind ≡ Go
unfolding cut_decision decided
cut_goes rule cap due longest pages now =
    elim (ltb longest due) as (λ b. (cond b (decided rule cap Go longest (paused (now + min (due - longest) longest) longest pages)) (decided rule cap Go due (paused now due pages))).kind ≡ Go)
    [ true ↦ refl | false ↦ refl ]

go_goes : (rule : Rule) (cap rate longest : ℕ) (least : MinPause) (task : Task) (now : ℕ) → (go_decision rule cap rate longest least task now).kind ≡ Go
unfolding go_decision decided
go_goes rule cap rate longest least task now =
    let period : ℕ = period_of rate task in
    let due : ℤ = due_pause period task.paused_when now in
    elim (int_lt due (pos least.pause)) as (λ b. (cond b (decided rule cap Go 0 (unpaused due period now task)) (cut_decision rule cap (unsigned_abs due) longest least.pages now)).kind ≡ Go)
    [ true ↦ refl | false ↦ cut_goes rule cap (unsigned_abs due) longest least.pages now ]

throttled_ends : (rule : Rule) (wb_dirty cpus cap : ℕ) (estimate : Estimate) (task : Task) (now : ℕ)
    → EndsThen now (throttled rule wb_dirty cpus cap estimate task now)
unfolding throttled decided
throttled_ends rule wb_dirty cpus cap estimate task now =
    let rate : ℕ = rate_of rule.ratio estimate in
    let longest : ℕ = longest_pause wb_dirty estimate.avg in
    let least : MinPause = least_pause longest estimate.avg estimate.ratelimit rate in
    elim (eqb rate 0) as (λ b. EndsThen now (cond b (decided rule cap (kind_at_rest wb_dirty cpus) longest (paused now longest least.pages)) (go_decision rule cap rate longest least task now)))
    [ true ↦ λ ne. refl | false ↦ λ ne. absurd (ne (go_goes rule cap rate longest least task now)) ]

-- by any rule
pub finished_ends : (rule : Rule) (wb_dirty cpus cap : ℕ) (estimate : Estimate) (task : Task) (now : ℕ)
    → (finished rule wb_dirty cpus cap estimate task now).kind ≢ Go
    → (finished rule wb_dirty cpus cap estimate task now).task.paused_when ≡ now + (finished rule wb_dirty cpus cap estimate task now).pause
unfolding decided
finished_ends rule wb_dirty cpus cap estimate task now =
    elim rule.free as (λ b. EndsThen now (cond b (decided rule cap Free 0 (free_task rule.poll now)) (throttled rule wb_dirty cpus cap estimate task now)))
    [ true ↦ λ ne. omega arith | false ↦ throttled_ends rule wb_dirty cpus cap estimate task now ]

pub other_pauses_end : OtherPausesEnd
unfolding decision_of
other_pauses_end reads estimate task now =
    finished_ends (domain_rule reads estimate) reads.wb_dirty reads.cpus reads.cap estimate task now
