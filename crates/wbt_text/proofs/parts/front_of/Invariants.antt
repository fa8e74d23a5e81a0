use Rattle.std.proofs.Common.{take}
use Rattle.wbt_text.specs.Cut.{HasNoDigit}
use Rattle.wbt_text.proofs.parts.front_of.Given as goal

abbrev pub invariant-loop-i : goal.invariant-loop-i
invariant-loop-i l = HasNoDigit (take l.i l.text)
