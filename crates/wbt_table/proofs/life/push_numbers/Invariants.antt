use Rattle.std.proofs.Common.{◌≡◌, ◌++◌, replicate}
use Rattle.wbt_table.proofs.life.push_numbers.Given as goal

abbrev pub invariant-loop-i : goal.invariant-loop-i
invariant-loop-i l = l.words.items ≡ l.fn.words.items ++ replicate l._i l.number
