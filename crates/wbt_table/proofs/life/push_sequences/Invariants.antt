use Rattle.std.proofs.Common.{◌≡◌, ◌++◌, map, take}
use Rattle.wbt_table.proofs.Common.{first_sequence_word}
use Rattle.wbt_table.proofs.life.push_sequences.Given as goal

abbrev pub invariant-loop-first : goal.invariant-loop-first
invariant-loop-first l = l.words.items ≡ l.fn.words.items ++ map first_sequence_word (take l.first-index l.firsts)
