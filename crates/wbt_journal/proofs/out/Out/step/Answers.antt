use Rattle.std.proofs.Common.{◌++◌, ◌∙◌, append_assoc}
use Rattle.wbt_journal.specs.declared.word.Word.TheVariants as word
use Rattle.wbt_journal.specs.Kept.{end_text}
use Rattle.wbt_journal.specs.Line.{fields_text}
use Rattle.wbt_journal.specs.Steps.{step_fields}
use Rattle.wbt_journal.specs.Word.{word_text}
use Rattle.wbt_journal.proofs.Texts.{step_text}
use Rattle.wbt_journal.proofs.Ways.{puts_same, puts_then}
use Rattle.wbt_journal.proofs.out.Out.step.Goals as goal

pub returns : goal.returns
returns g c =
    let first = step_fields c.args.cpus c.args.number c.args.step.now in
    let head = word_text word.Step ++ fields_text first in
    let end = end_text c.args.columns.now in
    puts_same _ _ _ _ (append_assoc (word_text word.Step) (fields_text first) end ∙ step_text first (word_text word.Step) c.args.columns.now)
    (puts_then head end _ _ _ c.head.ensures (puts_same _ _ _ _ c.end.ensures c.put_all.ensures))
