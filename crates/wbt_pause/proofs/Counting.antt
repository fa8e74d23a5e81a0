-- No decision makes its writer count more pages.
use Rattle.std.proofs.Common.{ℕ, ◌≤◌, Bool, true, false, cond, eqb, leb, ltb, ℤ, pos, unsigned_abs, arith}
use Rattle.std.specs.Prelude.{int_lt, neg_ℤ}
use Rattle.wbt_estimate.specs.declared.estimate.Estimate.{Estimate}
use Rattle.wbt_pause.specs.declared.decision.Decision.{Decision}
use Rattle.wbt_pause.specs.declared.pauses.MinPause.{MinPause}
use Rattle.wbt_pause.specs.declared.reads.Task.{Task}
use Rattle.wbt_pause.specs.declared.rule.Rule.{Rule}
use Rattle.wbt_pause.specs.Decision.{cut_decision, decided, decision_of, domain_rule, due_pause, finished, go_decision, period_of, rate_of, throttled, unpaused}
use Rattle.wbt_pause.specs.Laws.{CountsNoMore}
use Rattle.wbt_pause.specs.Pauses.{least_pause, longest_pause}

-- a decision after which the writer counts at most so many pages
abbrev CountsAtMost : (most : ℕ) (decision : Decision) → Type 0
CountsAtMost most decision = decision.task.nr_dirtied ≤ most

-- of two decisions by a test
either : (most : ℕ) (test : Bool) (left right : Decision) → CountsAtMost most left → CountsAtMost most right → CountsAtMost most (cond test left right)
either most true left right h g = h
either most false left right h g = g

one_of : (most : ℕ) (test : Bool) (left right : Task) → left.nr_dirtied ≤ most → right.nr_dirtied ≤ most → (cond test left right).nr_dirtied ≤ most
one_of most true left right h g = h
one_of most false left right h g = g

unpaused_counts : (due : ℤ) (period now : ℕ) (task : Task) → (unpaused due period now task).nr_dirtied ≤ task.nr_dirtied
unpaused_counts due period now task =
    one_of task.nr_dirtied (int_lt due (neg_ℤ (pos 1000))) _ _ (omega arith)
    (one_of task.nr_dirtied (ltb 0 period) _ _ (omega arith)
    (one_of task.nr_dirtied (leb task.nr_dirtied_pause task.nr_dirtied) _ _ (omega arith) (omega arith)))

cut_counts : (rule : Rule) (cap due longest pages now most : ℕ) → CountsAtMost most (cut_decision rule cap due longest pages now)
unfolding cut_decision decided
cut_counts rule cap due longest pages now most = either most (ltb longest due) _ _ (omega arith) (omega arith)

go_counts : (rule : Rule) (cap rate longest : ℕ) (least : MinPause) (task : Task) (now : ℕ)
    → CountsAtMost task.nr_dirtied (go_decision rule cap rate longest least task now)
unfolding go_decision decided
go_counts rule cap rate longest least task now =
    let period : ℕ = period_of rate task in
    let due : ℤ = due_pause period task.paused_when now in
    either task.nr_dirtied (int_lt due (pos least.pause)) _ _ (unpaused_counts due period now task)
    (cut_counts rule cap (unsigned_abs due) longest least.pages now task.nr_dirtied)

throttled_counts : (rule : Rule) (wb_dirty cpus cap : ℕ) (estimate : Estimate) (task : Task) (now : ℕ)
    → CountsAtMost task.nr_dirtied (throttled rule wb_dirty cpus cap estimate task now)
unfolding throttled decided
throttled_counts rule wb_dirty cpus cap estimate task now =
    let rate : ℕ = rate_of rule.ratio estimate in
    let longest : ℕ = longest_pause wb_dirty estimate.avg in
    let least : MinPause = least_pause longest estimate.avg estimate.ratelimit rate in
    either task.nr_dirtied (eqb rate 0) _ _ (omega arith) (go_counts rule cap rate longest least task now)

-- by any rule
pub finished_counts : (rule : Rule) (wb_dirty cpus cap : ℕ) (estimate : Estimate) (task : Task) (now : ℕ)
    → (finished rule wb_dirty cpus cap estimate task now).task.nr_dirtied ≤ task.nr_dirtied
unfolding decided
finished_counts rule wb_dirty cpus cap estimate task now =
    either task.nr_dirtied rule.free _ _ (omega arith) (throttled_counts rule wb_dirty cpus cap estimate task now)

pub counts_no_more : CountsNoMore
unfolding decision_of
counts_no_more reads estimate task now =
    finished_counts (domain_rule reads estimate) reads.wb_dirty reads.cpus reads.cap estimate task now
