use Rattle.std.proofs.Common.{◌≡◌, ◌++◌, map, take}
use Rattle.wbt_table.proofs.Common.{Limits}
use Rattle.wbt_table.proofs.life.push_peaks.Given as goal

abbrev pub invariant-loop-first : goal.invariant-loop-first
invariant-loop-first l = l.words.items ≡ l.fn.words.items ++ map (λ (z : Limits). z.hard) (take l.first-index l.firsts)
