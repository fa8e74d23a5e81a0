use Rattle.std.proofs.Common.{[], ◌∷◌, flat_map, ap}
use Rattle.wbt_journal.specs.declared.word.Word.TheVariants as word
use Rattle.wbt_journal.specs.Line.{line, line_text, num}
use Rattle.wbt_journal.specs.Pieces.{entry_text}
use Rattle.wbt_journal.proofs.Ways.{puts_same, puts_line}
use Rattle.wbt_journal.proofs.out.Out.part.Goals as goal

pub returns : goal.returns
returns g c =
    puts_line word.Cpu (num c.args.cpu ∷ []) (flat_map (entry_text c.args.checks.now c.args.estimates.now) c.args.entries.now) _ _ _
    (puts_same _ _ _ _ (ap (λ field. line_text (line word.Cpu (field ∷ []))) c.length_field.ensures) c.line.ensures) c.entries.ensures
