use Rattle.wbt_writer.proofs.cpu.WriterCpu.make.Goals as goal
use Rattle.std.proofs.Common.{List, length, replicate, ap, ◌∙◌}
use Rattle.wbt_writer.proofs.Common.{no_fractions, Inode}
use Rattle.wbt_kit.proofs.Common.{Context}
use Rattle.wbt_writer.proofs.Opened.{first_lefts, opened_work}

pub returns-clause-lefts : goal.returns-clause-lefts
returns-clause-lefts c = first_lefts c.args.trace.now c.args.cpu c.in_ok-tasks.tasks c.in_ok-tasks.ensures.side

pub invariant_of-result : goal.invariant_of-result
invariant_of-result c = opened_work c.args.trace.now (record { tasks = c.in_ok-tasks.tasks; fractions = c.in_ok-fractions.fractions; waiting = c.in_ok-waiting.waiting }) c.requires.lawful c.in_ok-tasks.ensures.tasks c.in_ok-tasks.ensures.next.0
    c.in_ok-tasks.ensures.side (c.in_ok-fractions.ensures ∙ ap (λ (l : List Context). replicate (length l) no_fractions) c.as_slice.ensures) (c.in_ok-waiting.ensures ∙ ap (λ (l : List Inode). length l) c.as_slice-2.ensures)
