use Rattle.std.proofs.Common.{◌<◌, length, ◌∙◌, arith}
use Rattle.wbt_replay_order.proofs.Common.{no_tally}
use Rattle.wbt_replay.proofs.StrictLines.Tallies.{counted_next, passed_next}
use Rattle.wbt_replay.proofs.strict.tallies_of.Goals as goal
use Rattle.wbt_replay.proofs.strict.tallies_of.Goals.{then-step-contexts, else-step-contexts}

pub loop-step-preserved : goal.loop-step-preserved
loop-step-preserved c =
    let steps = c.args.steps.now in
    let i = c.loop-step.step-index in
    let less : i < length steps = omega (arith, c.loop-step-test.true) in
    elim c.if-step-contexts.branch [
      | then-step-contexts w ↦
          counted_next c.args.contexts steps i _ c.loop-step.tallies c.if-step-contexts.tallies less c.loop-step.invariant w.get.result w.tally_after-tally.result
          w.if-step-contexts.true w.tally_after-tally.ensures.few (w.get.ensures no_tally) w.tally_after-tally.ensures.value (w.tallies-is ∙ w.put.ensures)
      | else-step-contexts w ↦
          passed_next c.args.contexts steps i _ c.loop-step.tallies c.if-step-contexts.tallies less c.loop-step.invariant w.if-step-contexts.false w.tallies-is
    ]
