use Rattle.std.proofs.Common.{◌≡◌, ◌-◌, ◌++◌}
use Rattle.wbt_replay_order.specs.Definition.Run as spec
use Rattle.wbt_replay_moves.specs.Pages.{book_of}
use Rattle.wbt_replay.proofs.ordered.left_of.Given as goal

abbrev pub invariant-loop-page : goal.invariant-loop-page
invariant-loop-page l = l.left.items ++ spec.left_from (l.pages.count - l.page) l.page (book_of l.pages.words) ≡ spec.left_from l.pages.count 0 (book_of l.pages.words)
