use Rattle.std.proofs.Common.{Option, arith, sym, ap, ◌∙◌}
use Rattle.wbt_rules.specs.Pace.{pause_of}
use Rattle.wbt_writer.proofs.Common.{Write, Rest, Pace}
use Rattle.wbt_writer.proofs.Along.{found_in, is_there, next_pause, next_write, next_rest, page_fits}
use Rattle.wbt_writer.proofs.task.TaskPlace.next.Goals as goal

pub pace_of-requires : goal.pace_of-requires
pace_of-requires c =
    is_there c.args.trace.now c.requires.lawful c.args.task c.args.self.now c.requires.along c.in-Write.task c.in-Write.inode c.in-Write.from c.in-Write.pages
    (found_in _ _ c.as_slice-actions.ensures c.args.self.now.at (Write c.in-Write.task c.in-Write.inode c.in-Write.from c.in-Write.pages) (omega (arith, c)) c.in-Write.is)

pub returns-in-None : goal.returns-in-None
returns-in-None c =
    next_write c.args.trace.now c.args.task c.args.self.now c.requires.along c.requires.lawful c.in-Write.task c.in-Write.inode c.in-Write.from c.in-Write.pages
    (found_in _ _ c.as_slice-actions.ensures c.args.self.now.at (Write c.in-Write.task c.in-Write.inode c.in-Write.from c.in-Write.pages) (omega (arith, c)) c.in-Write.is)
    (sym (c.in-None.ensures ∙ ap (λ (pace : Option Pace). pause_of pace c.args.self.now.since) c.pace_of.ensures))

pub returns-in-Some : goal.returns-in-Some
returns-in-Some c =
    next_pause c.args.trace.now c.args.task c.args.self.now c.requires.along c.in-Write.task c.in-Write.inode c.in-Write.from c.in-Write.pages c.in-Some.ticks
    (found_in _ _ c.as_slice-actions.ensures c.args.self.now.at (Write c.in-Write.task c.in-Write.inode c.in-Write.from c.in-Write.pages) (omega (arith, c)) c.in-Write.is)
    (sym (c.in-Some.ensures ∙ ap (λ (pace : Option Pace). pause_of pace c.args.self.now.since) c.pace_of.ensures))

pub returns-in-Rest : goal.returns-in-Rest
returns-in-Rest c =
    next_rest c.args.trace.now c.args.task c.args.self.now c.requires.along c.in-Rest.task c.in-Rest.ticks
    (found_in _ _ c.as_slice-actions.ensures c.args.self.now.at (Rest c.in-Rest.task c.in-Rest.ticks) (omega (arith, c)) c.in-Rest.is)

pub overflow_add-result : goal.overflow_add-result
overflow_add-result c =
    let less = page_fits c.args.trace.now c.requires.lawful c.args.task c.args.self.now c.requires.along c.in-Write.task c.in-Write.inode c.in-Write.from c.in-Write.pages
    (found_in _ _ c.as_slice-actions.ensures c.args.self.now.at (Write c.in-Write.task c.in-Write.inode c.in-Write.from c.in-Write.pages) (omega (arith, c)) c.in-Write.is) in
    omega (arith, less)
