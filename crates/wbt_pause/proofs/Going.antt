-- The two ways of a writer that goes on. A number with a stroke is the same number, as it is passed on.
use Rattle.std.proofs.Common.{◌≡◌, ℕ, ◌*◌, ◌/◌, true, false, ℤ, pos, unsigned_abs}
use Rattle.std.specs.Prelude.{int_lt}
use Rattle.wbt_pause.specs.declared.decision.Kind.TheVariants.{Go}
use Rattle.wbt_pause.specs.declared.pauses.MinPause.{MinPause}
use Rattle.wbt_pause.specs.declared.reads.Task.{Task}
use Rattle.wbt_pause.specs.declared.rule.Rule.{Rule}
use Rattle.wbt_pause.specs.Decision.{cut_decision, decided, due_pause, go_decision, unpaused}

pub goes_at_once : (rule : Rule) (cap rate longest : ℕ) (least : MinPause) (task : Task) (now : ℕ) (due due' limit : ℤ) (period : ℕ)
    → due' ≡ due → limit ≡ pos least.pause → period ≡ 1000 * task.nr_dirtied / rate → due ≡ due_pause period task.paused_when now
    → int_lt due' limit ≡ true
    → decided rule cap Go 0 (unpaused due' period now task) ≡ go_decision rule cap rate longest least task now
unfolding go_decision
goes_at_once rule cap rate longest least task now due due' limit period e l p d h =
    let test : int_lt (due_pause (1000 * task.nr_dirtied / rate) task.paused_when now) (pos least.pause) ≡ true = cc in
    rw test cc

pub pauses_first : (rule : Rule) (cap rate longest : ℕ) (least : MinPause) (task : Task) (now : ℕ) (due due' limit : ℤ) (period : ℕ)
    → due' ≡ due → limit ≡ pos least.pause → period ≡ 1000 * task.nr_dirtied / rate → due ≡ due_pause period task.paused_when now
    → int_lt due' limit ≡ false
    → cut_decision rule cap (unsigned_abs due') longest least.pages now ≡ go_decision rule cap rate longest least task now
unfolding go_decision
pauses_first rule cap rate longest least task now due due' limit period e l p d h =
    let test : int_lt (due_pause (1000 * task.nr_dirtied / rate) task.paused_when now) (pos least.pause) ≡ false = cc in
    rw test cc
