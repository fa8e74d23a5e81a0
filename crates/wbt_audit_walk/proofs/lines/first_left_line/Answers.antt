use Rattle.std.proofs.Common.{ℕ, ◌+◌, refl, sym, ap, ◌∙◌}
use Rattle.std.specs.List.{sum_by}
use Rattle.wbt_audit_walk.proofs.Common.{item_size, rest}
use Rattle.wbt_journal.specs.Verdict as spec
use Rattle.wbt_audit_walk.proofs.Telling.{line_behind, line_end}
use Rattle.wbt_audit_walk.proofs.lines.first_left_line.Goals as goal

pub steps-preserved : goal.steps-preserved
steps-preserved c =
    let shown = rw c.in-Some.is at c.in_ok-_step.ensures in record {
      same = refl;
      behind = line_behind c.steps.walk c.in-Some._step c.next.new.self shown
          ∙ ap (λ (k : ℕ). k + sum_by item_size (rest c.steps.walk)) (sym c.steps.invariant.same) ∙ c.steps.invariant.behind;
    }

pub returns : goal.returns
returns c =
    line_end c.steps.line (spec.first_left_line c.args.journal.now) (rest c.steps.walk) (rw c.in_default.is at c.in_ok-_step.ensures) c.steps.invariant.behind
