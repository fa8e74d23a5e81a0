use Rattle.std.proofs.Common.{[], arith}
use Rattle.wbt_journal.specs.declared.word.Word.TheVariants as word
use Rattle.wbt_journal.specs.Line.{lines_text}
use Rattle.wbt_journal.specs.Steps.{step_lines}
use Rattle.wbt_journal.proofs.Texts.{some_steps}
use Rattle.wbt_journal.proofs.Ways.{puts_same, puts_line}
use Rattle.wbt_journal.proofs.out.Out.steps_part.Goals as goal

pub returns-in-len1-up : goal.returns-in-len1-up
returns-in-len1-up g c =
    puts_same _ _ _ _ (some_steps c.args.cpus c.args.homes.now c.args.columns.now c.args.steps.now (omega (arith, c.in-len1-up.len_at_least)))
    (puts_line word.Steps [] (lines_text (step_lines c.args.cpus c.args.homes.now 1 c.args.columns.now c.args.steps.now)) _ _ _ c.line.ensures c.steps.ensures)
