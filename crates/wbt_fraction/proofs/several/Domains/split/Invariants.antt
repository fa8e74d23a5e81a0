use Rattle.std.proofs.Common.{◌≡◌, ◌≤◌, length}
use Rattle.wbt_fraction.proofs.Fitting.{split_first, rights}
use Rattle.wbt_fraction.proofs.several.Domains.split.Given as goal

abbrev pub invariant-loop-i : goal.invariant-loop-i
invariant-loop-i l = record { mine : l.seat-inside.seats.items ≡ split_first l.i l.fn.seat; others : l.seats.items ≡ rights l.i l.fn.seat; place : l.i-end ≤ l.seats.cap; bound : l.i ≤ l.i-end; domains : l.self-inside.domains.items ≡ l.fn.self; last : l.i-end ≡ length l.fn.self }
