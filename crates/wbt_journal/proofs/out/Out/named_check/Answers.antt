use Rattle.std.proofs.Common.{◌∙◌, ap, sym, append-nil, flat_map, option_copied}
use Rattle.wbt_journal.specs.Line.{lines_text}
use Rattle.wbt_journal.specs.Lines.{check_lines, told_lines}
use Rattle.wbt_journal.specs.Told.{one_checked}
use Rattle.wbt_journal.proofs.Ways.{puts_same}
use Rattle.wbt_journal.proofs.out.Out.named_check.Goals as goal

pub returns-in-Some : goal.returns-in-Some
returns-in-Some g c =
    puts_same _ _ _ _
    (ap lines_text (sym (append-nil (check_lines c.in-Some.check.now)))
    ∙ ap (λ o. lines_text (flat_map told_lines (one_checked (option_copied o)))) (sym c.in-Some.is))
    c.check.ensures
