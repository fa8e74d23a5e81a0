-- A walk through the CPUs' parts of a journal: what is still to come, and what each step shows.
use Rattle.std.specs.Prelude.{◌≡◌, ℕ, ◌+◌, Option, Some, None, List, [], ◌∷◌, ◌++◌, map, flat_map}
use Rattle.std.specs.Borrow.{Bor}
use Rattle.wbt_journal.specs.declared.entry.Entry.{Entry}
use Rattle.wbt_journal.specs.Items.{Item, begins, tells, items_from, item_size}
use Rattle.wbt_journal.specs.Told.{Told, told, told_entry}
use Rattle.wbt_audit_walk.specs.declared.act.Act.{Act}
use Rattle.wbt_audit_walk.specs.declared.walk.Step.{Step}
use Rattle.wbt_audit_walk.specs.declared.walk.Walk.{Walk}
use Rattle.wbt_audit_walk.specs.Acts.{told_of}

-- what is left of the part that was begun
abbrev pub left_of_part : (walk : Walk) → List Told
left_of_part walk = flat_map (told_entry walk.checks.now walk.estimates.now) walk.entries.now

-- and the parts behind it
abbrev pub left_parts : (walk : Walk) → List Item
left_parts walk = items_from walk.next (map told walk.parts.now)

-- all items that are still to come
abbrev pub rest : (walk : Walk) → List Item
rest walk = map (tells walk.cpu) (left_of_part walk) ++ left_parts walk

-- the item of a step on a CPU: the first line of its part, or an act
abbrev pub item_by : (cpu : ℕ) (act : Option Act) → Item
item_by cpu None = begins cpu
item_by cpu (Some act) = tells cpu (told_of act)

-- the item that a step shows
abbrev pub item_of : (step : Step) → Item
item_of step = item_by step.cpu step.act

-- an act is the first that the entries tell, and these are behind it; without one they tell nothing
abbrev pub Begins : (told_by_one : Entry → List Told) (entries : List Entry) (found : Option (Act × Bor (List Entry))) → Type 0
Begins told_by_one entries None = flat_map told_by_one entries ≡ []
Begins told_by_one entries (Some (act, more)) = flat_map told_by_one entries ≡ told_of act ∷ flat_map told_by_one more.now

-- A step shows the first item of those that were to come, with its first line.
pub record Shows (old : Walk) (step : Step) (new : Walk) : Type 0 where
  pub item : rest old ≡ item_of step ∷ rest new
  pub line : step.line ≡ old.line
  pub next_line : new.line ≡ old.line + item_size (item_of step)

-- Without a step nothing was to come.
abbrev pub Went : (old new : Walk) (step : Option Step) → Type 0
Went old new None = rest old ≡ []
Went old new (Some step) = Shows old step new

-- the walk from another line on
abbrev pub at_line : (line : ℕ) (walk : Walk) → Walk
at_line line walk = record walk { line = line }

-- the entries among items
abbrev pub told_in : (items : List Item) → List Told
told_in [] = []
told_in (begins cpu ∷ more) = told_in more
told_in (tells cpu entry ∷ more) = entry ∷ told_in more
