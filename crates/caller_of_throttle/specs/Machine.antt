-- What a throttle is made for here.
use Rattle.std.specs.Prelude.{ℕ, zero, suc, ◌*◌, ◌/◌, ◌^◌, List, [], ◌∷◌, ◌++◌}
use Rattle.wbt_table.specs.declared.layout.Layout.{Layout}
use Rattle.wbt_table.specs.declared.layout.Writer.{Writer}

-- the first n writers, where each CPU has so many
abbrev pub writers_of : (each n : ℕ) → List Writer
writers_of each zero = []
writers_of each (suc n) = writers_of each n ++ record { cpu = n / each; context = 0 } ∷ []

-- so many CPUs, writers on each, and pages
abbrev pub machine_of : (cpus each pages : ℕ) → Layout
machine_of cpus each pages = record {
  cpus = cpus;
  cap = 32;
  firsts = record { thresh = 100; bg = 50; hard = 100 } ∷ [];
  contexts = 0 ∷ [];
  inodes = record { context = 0; first = 0; pages = pages } ∷ [];
  writers = writers_of each (cpus * each);
  page_steps = 2 ^ 33;
}
