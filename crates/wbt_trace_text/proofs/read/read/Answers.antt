use Rattle.wbt_trace_text.proofs.LineLaws.{clear}
use Rattle.wbt_trace_text.proofs.read.read.Goals as goal

pub read_lines-requires : goal.read_lines-requires
read_lines-requires c = record { clear = clear }
