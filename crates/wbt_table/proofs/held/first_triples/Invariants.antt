use Rattle.std.proofs.Common.{◌≡◌, ℕ, ◌%◌, ◌<◌, length, get_or}
use Rattle.wbt_table.proofs.Common.{first_triple, no_triple, no_limits}
use Rattle.wbt_table.proofs.held.first_triples.Given as goal

abbrev pub invariant-loop-k : goal.invariant-loop-k
invariant-loop-k l = (length l.triples.items ≡ l.k)
    × ((j : ℕ) → j < l.k → get_or l.triples.items j no_triple ≡ first_triple (get_or l.firsts (j % length l.firsts) no_limits))
