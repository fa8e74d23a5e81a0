use Rattle.wbt_trace_text.proofs.RoundTrips.{written_read}
use Rattle.wbt_trace_text.proofs.write.written_is_read.Goals as goal

pub returns : goal.returns
returns c = written_read
