use Rattle.std.proofs.Common.{sym, ◌∙◌, arith}
use Rattle.wbt_writer.proofs.Counting.{no_more}
use Rattle.wbt_writer.proofs.tasks.Tasks.end_writers.Goals as goal

pub returns-clause-cpu : goal.returns-clause-cpu
returns-clause-cpu c = sym (c.loop-number.invariant.reaches ∙ no_more _ _ c.args.task c.loop-number.number _ c.args.self.now.names.items (omega (arith, c)))
