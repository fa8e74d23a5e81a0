use Rattle.std.proofs.Common.{◌≡◌, ◌-◌, ◌++◌}
use Rattle.wbt_run_laws.specs.Throttle.{left_from}
use Rattle.wbt_run_seats.specs.Left.{book_of}
use Rattle.wbt_run_seats.proofs.left.left_in.Given as goal

abbrev pub invariant-loop-page : goal.invariant-loop-page
invariant-loop-page l = l.left ++ left_from (book_of l.census) l.page (l.pages - l.page) ≡ left_from (book_of l.census) 0 l.pages
