use Rattle.std.proofs.Common.{◌-◌, length}
use Rattle.wbt_top_plain.proofs.Cutting.{HasPassed}
use Rattle.wbt_top_plain.proofs.cut.parts_of.Given as goal

abbrev pub invariant-lines : goal.invariant-lines
invariant-lines l = HasPassed l.text l.start

abbrev pub decreases-lines : goal.decreases-lines
decreases-lines l = length l.text - l.start
