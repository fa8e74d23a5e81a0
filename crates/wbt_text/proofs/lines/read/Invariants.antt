use Rattle.std.proofs.Common.{length}
use Rattle.wbt_text.proofs.Leading.{Reached}
use Rattle.wbt_text.proofs.lines.read.Given as goal

abbrev pub invariant-lines : goal.invariant-lines
invariant-lines g l = Reached g.R.Reader.format (g.R.Reader.seen l.initial.reader) l.text l.count (g.R.Reader.seen l.reader) l.rest

abbrev pub decreases-lines : goal.decreases-lines
decreases-lines g l = length l.rest
