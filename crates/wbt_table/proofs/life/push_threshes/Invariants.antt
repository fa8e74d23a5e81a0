use Rattle.std.proofs.Common.{◌≡◌, ◌++◌, map, take}
use Rattle.wbt_table.proofs.Common.{thresh_word_of}
use Rattle.wbt_table.proofs.life.push_threshes.Given as goal

abbrev pub invariant-loop-first : goal.invariant-loop-first
invariant-loop-first l = l.words.items ≡ l.fn.words.items ++ map thresh_word_of (take l.first-index l.firsts)
