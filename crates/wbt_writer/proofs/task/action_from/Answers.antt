use Rattle.std.proofs.Common.{ap, arith, length, subst, ℕ}
use Rattle.std.proofs.lemmas.Option.{slice_get_within}
use Rattle.wbt_writer.proofs.Common.{Skips}
use Rattle.wbt_writer.proofs.Along.{skips_more}
use Rattle.wbt_writer.proofs.task.action_from.Goals as goal

pub loop-at-preserved : goal.loop-at-preserved
loop-at-preserved c = skips_more c.args.task c.args.from c.loop-at.at c.task_of.result c.as_slice-actions.result.now c.args.trace.now.actions c.as_slice-actions.ensures
    c.loop-at.invariant (omega (arith, c)) c.task_of.ensures c.if-task_of-task.false

pub returns-clause-own : goal.returns-clause-own
returns-clause-own c = λ action there.
    let less = slice_get_within c.args.trace.now.actions (length c.as_slice-actions.result.now) action there in
    let same = ap length c.as_slice-actions.ensures in absurd (omega arith)

pub returns-clause-skips : goal.returns-clause-skips
returns-clause-skips c = let same = ap length c.as_slice-actions.ensures in let at_most = c.requires in subst (λ (n : ℕ). Skips c.args.task c.args.from n c.args.trace.now.actions) (omega (arith, c)) c.loop-at.invariant
