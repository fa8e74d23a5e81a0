use Rattle.std.proofs.Common.{◌≡◌, ◌++◌, replicate}
use Rattle.wbt_audit_walk.proofs.things.push_all.Given as goal

abbrev pub invariant-loop-page : goal.invariant-loop-page
invariant-loop-page l = l.by_page.items ≡ l.initial.by_page.items ++ replicate l._page l.context
