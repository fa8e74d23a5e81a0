-- The CPUs' parts of a journal as one list of items.
use Rattle.std.specs.Prelude.{ℕ, ◌+◌, List, [], ◌∷◌, ◌++◌, length, map, flat_map}
use Rattle.wbt_journal.specs.declared.journal.Journal.{Journal}
use Rattle.wbt_journal.specs.Lines.{told_lines}
use Rattle.wbt_journal.specs.Told.{Told, told}

-- an item of a journal: the first line of a CPU's part, or one of its entries
pub data Item : Type 0 where
  -- a CPU's part begins
  begins : (cpu : ℕ) → Item
  -- it tells an entry
  tells : (cpu : ℕ) (entry : Told) → Item

-- the items of the parts of the CPUs from a number on, in order of CPU
abbrev pub items_from : (cpu : ℕ) (lists : List (List Told)) → List Item
items_from cpu [] = []
items_from cpu (part ∷ parts) = begins cpu ∷ map (tells cpu) part ++ items_from (cpu + 1) parts

-- what each CPU's part tells, in order of CPU
abbrev pub parts_of : (j : Journal) → List (List Told)
parts_of j = map told j.cpus

-- all items of a journal, of the first CPU first
abbrev pub items_of : (j : Journal) → List Item
items_of j = items_from 0 (parts_of j)

-- how many lines an item has
abbrev pub item_size : (item : Item) → ℕ
item_size (begins cpu) = 1
item_size (tells cpu entry) = length (told_lines entry)

-- all entries, of the first CPU first
abbrev pub all_told : (j : Journal) → List Told
all_told j = flat_map told j.cpus
