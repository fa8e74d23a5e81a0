use Rattle.std.proofs.Common.{take}
use Rattle.wbt_text.specs.Cut.{Without}
use Rattle.wbt_text.proofs.parts.cut.Given as goal

abbrev pub invariant-loop-i : goal.invariant-loop-i
invariant-loop-i l = Without l.at (take l.i l.text)
