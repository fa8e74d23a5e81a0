use Rattle.wbt_journal_reader.proofs.Lines.{clear}
use Rattle.wbt_journal_reader.proofs.read.read.Goals as goal

pub read_lines-requires : goal.read_lines-requires
read_lines-requires c = record { clear = clear }
