use Rattle.wbt_law.proofs.RowLaws.{clear}
use Rattle.wbt_law.proofs.read.read.Goals as goal

pub read_lines-requires : goal.read_lines-requires
read_lines-requires c = record { clear = clear }
