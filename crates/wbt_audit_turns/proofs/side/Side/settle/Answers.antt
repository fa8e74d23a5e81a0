use Rattle.std.proofs.Common.{sym, ◌∙◌}
use Rattle.std.proofs.lemmas.Bool.{cond-true, cond-false}
use Rattle.wbt_journal.specs.Side.{end_task}
use Rattle.wbt_audit_turns.specs.Sides.{side_of}
use Rattle.wbt_audit_turns.proofs.side.Side.settle.Goals as goal

pub returns-then-is_over-clause-side : goal.returns-then-is_over-clause-side
returns-then-is_over-clause-side c = c.end.ensures.side
    ∙ sym (cond-true _ (end_task c.args.machine.now.trace.now c.args.machine.now.opened c.args.task (side_of c.args.self.now)) (side_of c.args.self.now) (sym c.is_over.ensures ∙ c.if-is_over.true))

pub returns-else-is_over-clause-side : goal.returns-else-is_over-clause-side
returns-else-is_over-clause-side c =
    sym (cond-false _ (end_task c.args.machine.now.trace.now c.args.machine.now.opened c.args.task (side_of c.args.self.now)) (side_of c.args.self.now) (sym c.is_over.ensures ∙ c.if-is_over.false))
