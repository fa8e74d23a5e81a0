use Rattle.std.proofs.Common.{ℕ, ◌+◌, ◌++◌, List, drop, sym, ap, ◌∙◌}
use Rattle.wbt_audit_walk.proofs.Common.{numbers_from}
use Rattle.wbt_audit_turns.proofs.Numbering.{with_number, without_number, no_number}
use Rattle.wbt_audit_turns.proofs.numbers.numbers_of_task.Goals as goal
use Rattle.wbt_audit_turns.proofs.numbers.numbers_of_task.Goals.{then-names-number+in_ok-push, else-names-number}

pub loop-number-preserved : goal.loop-number-preserved
loop-number-preserved c =
    let task = c.args.task in
    let names = c.args.names.now in
    let k = c.loop-number.number in
    elim c.if-names-number.branch [
      | then-names-number+in_ok-push w ↦ ap (λ (ns : List ℕ). ns ++ numbers_from task (k + 1) (drop (k + 1) names)) (w.numbers-is ∙ w.in_ok-push.ensures)
          ∙ with_number c.loop-number.numbers task k names c.loop-number-test.true w.if-names-number.true ∙ c.loop-number.invariant
      | else-names-number w ↦ ap (λ (ns : List ℕ). ns ++ numbers_from task (k + 1) (drop (k + 1) names)) w.numbers-is
          ∙ without_number c.loop-number.numbers task k names c.loop-number-test.true w.if-names-number.false ∙ c.loop-number.invariant
    ]

pub returns : goal.returns
returns c = sym (no_number c.loop-number.numbers c.args.task c.loop-number.number c.args.names.now c.loop-number-test.false) ∙ c.loop-number.invariant
