use Rattle.std.proofs.Common.{◌∙◌, sym}
use Rattle.wbt_writer.proofs.Settling.{settles, settles_not, stays_open, stays_ended}
use Rattle.wbt_writer.proofs.tasks.Tasks.settle.Goals as goal

pub returns-then-is_over-clause-tasks : goal.returns-then-is_over-clause-tasks
returns-then-is_over-clause-tasks c =
    let e = c.end.ensures in
    stays_ended c.args.trace.now c.args.task c.args.self.now c.requires.there c.requires.counted c.end.new.self c.requires.some e.only e.fixed e.stay e.left e.tasks c.requires.others

pub returns-then-is_over-clause-side : goal.returns-then-is_over-clause-side
returns-then-is_over-clause-side c = λ opened rate.
    settles c.args.trace.now c.args.task c.args.self.now c.requires.there c.requires.counted c.end.new.self (sym c.is_over.ensures ∙ c.if-is_over.true) c.end.ensures.cpu c.end.ensures.tasks opened rate

pub returns-else-is_over-clause-tasks : goal.returns-else-is_over-clause-tasks
returns-else-is_over-clause-tasks c =
    stays_open c.args.trace.now c.args.task c.args.self.now c.requires.there c.requires.counted (sym c.is_over.ensures ∙ c.if-is_over.false) c.requires.others

pub returns-else-is_over-clause-side : goal.returns-else-is_over-clause-side
returns-else-is_over-clause-side c = λ opened rate.
    settles_not c.args.trace.now c.args.task c.args.self.now c.requires.there c.requires.counted (sym c.is_over.ensures ∙ c.if-is_over.false) opened
