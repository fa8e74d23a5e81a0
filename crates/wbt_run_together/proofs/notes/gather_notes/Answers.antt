use Rattle.std.proofs.Common.{arith}
use Rattle.wbt_run_together.proofs.notes.gather_notes.Goals as goal

pub returns-clause-gathered : goal.returns-clause-gathered
returns-clause-gathered g c notes before =
    c.notes_are_gathered.ensures.timer_takes_in c.args.trace.now c.args.trace.now.cpus _ notes c.args.apart.share c.args.seats.now.share c.take_notes.new.seats.share
    c.args.apart.est c.args.seats.now.est c.take_notes.new.seats.est
    (let own = c.requires.apart.each_context in let there = c.requires.kit.contexts_are in omega (arith, own, there))
    (let own = c.requires.seats.each_context in let there = c.requires.kit.contexts_are in omega (arith, own, there))
    c.requires.rights before c.take_notes.ensures.shares c.take_notes.ensures.est
