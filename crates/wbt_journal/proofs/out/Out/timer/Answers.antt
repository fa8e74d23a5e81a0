use Rattle.std.proofs.Common.{[], flat_map}
use Rattle.wbt_journal.specs.declared.word.Word.TheVariants as word
use Rattle.wbt_journal.specs.Pieces.{timer_text}
use Rattle.wbt_journal.proofs.Ways.{puts_line}
use Rattle.wbt_journal.proofs.out.Out.timer.Goals as goal

pub returns : goal.returns
returns g c = puts_line word.Timer [] (flat_map timer_text c.args.timer.now) _ _ _ c.line.ensures c.timer_entries.ensures
