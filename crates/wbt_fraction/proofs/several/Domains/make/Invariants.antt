use Rattle.std.proofs.Common.{◌≡◌, length, replicate}
use Rattle.wbt_fraction.specs.Several.{Fits, AllFirst, parts_of}
use Rattle.wbt_fraction.proofs.several.Domains.make.Given as goal

abbrev pub invariant-loop-n : goal.invariant-loop-n
invariant-loop-n l = record { parts : parts_of l.domains.items ≡ replicate l._n l.parts; count : length l.domains.items ≡ l._n; fits : Fits l.domains.items l.seats.items; first : AllFirst l.seats.items }
