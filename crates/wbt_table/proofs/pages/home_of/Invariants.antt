use Rattle.wbt_table.proofs.Searching.{Between}
use Rattle.wbt_table.proofs.pages.home_of.Given as goal

abbrev pub invariant-loop-i : goal.invariant-loop-i
invariant-loop-i l = Between l.inodes l.page l.low l.high l._i
