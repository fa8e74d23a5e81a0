use Rattle.std.proofs.Common.{sym, ◌∙◌, ap, arith}
use Rattle.wbt_replay_order.specs.declared.tally.Tally.{Tally}
use Rattle.wbt_replay_order.proofs.Common.{no_tally}
use Rattle.wbt_replay.proofs.StrictLines.Lines.{told_next, untold_next}
use Rattle.wbt_replay_order.proofs.Facts.Parts.{used_within}
use Rattle.wbt_replay.proofs.strict.all_lines.Goals as goal
use Rattle.wbt_replay.proofs.strict.all_lines.Goals.{then-is_strict+in_ok-push, else-is_strict}

pub bound_for-bound-requires-clause-part : goal.bound_for-bound-requires-clause-part
bound_for-bound-requires-clause-part c =
    let k = c.loop-context.context in
    omega (arith, c.get.ensures 0, c.in_ok-parts.ensures.1 k, used_within c.args.trace.now c.requires.facts k c.args.cpus.now c.requires.checks)

pub loop-context-preserved : goal.loop-context-preserved
loop-context-preserved c =
    let trace = c.args.trace.now in
    let k = c.loop-context.context in
    elim c.if-is_strict.branch [
      | then-is_strict+in_ok-push w ↦
          told_next trace c.args.steps.now c.args.cpus.now k c.loop-context.lines c.if-is_strict.lines c.loop-context.invariant
          w.get-most.result.most w.bound_for-bound.result w.get.result (sym c.is_strict.ensures ∙ w.if-is_strict.true)
          (ap (λ (t : Tally). t.most) (w.get-most.ensures no_tally) ∙ c.in_ok-tallies.ensures.1 k c.loop-context-test.true)
          w.bound_for-bound.ensures (w.get.ensures 0 ∙ c.in_ok-parts.ensures.1 k) (w.lines-is ∙ w.in_ok-push.ensures)
      | else-is_strict w ↦
          untold_next trace c.args.steps.now c.args.cpus.now k c.loop-context.lines c.if-is_strict.lines c.loop-context.invariant
          (sym c.is_strict.ensures ∙ w.if-is_strict.false) w.lines-is
    ]
