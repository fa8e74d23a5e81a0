-- What the entries of a turn, or of a whole part, tell of the growth of a CPU's record.
use Rattle.std.specs.Prelude.{◌≡◌, ℕ, ◌+◌, ◌≤◌, ◌⊎◌, Bool, true, List, [], ◌∷◌, ◌++◌, map, flat_map, count_by, reverse}
use Rattle.std.specs.List.{list_all}
use Rattle.wbt_counter.specs.declared.counter.Counter.{Counter}
use Rattle.wbt_counter.specs.declared.record.Reading.{Reading}
use Rattle.wbt_book.specs.declared.event.Event.{Event}
use Rattle.wbt_grant.specs.Laws.{NoneAhead}
use Rattle.wbt_grant.specs.State.{no_record}
use Rattle.wbt_grant.specs.declared.record.CpuRecord.{CpuRecord}
use Rattle.wbt_journal.specs.Counts.{Load, Version, fold_in, loads_in, is_behind, CountsAreFresh, versions_after}
use Rattle.wbt_journal.specs.Effects.{event_of, found_of, listed}
use Rattle.wbt_journal.specs.Laws.{OfPart}
use Rattle.wbt_journal.specs.Leaves.{is_page_step}
use Rattle.wbt_journal.specs.Told.{Told}
use Rattle.wbt_run_laws.specs.Notes.{Longer}
use Rattle.wbt_run_laws.specs.Walks.{items_told, Walks}

-- ---- what entries tell of a record

-- what entries tell, the newest first, on top of what was there
abbrev pub onto : {E A : Type 0} (tells : E → List A) (entries : List E) (older : List A) → List A
onto tells [] older = older
onto tells (entry ∷ entries) older = onto tells entries (tells entry ++ older)

-- the page event of an entry
abbrev pub event_in : (entry : Told) → List Event
event_in entry = listed (event_of entry)

-- the page of a write that found it dirty
abbrev pub found_in : (entry : Told) → List ℕ
found_in entry = listed (found_of entry)

-- a count that was loaded, as a record keeps it
abbrev pub reading_of : (load : Load) → Reading
reading_of load = record { counter = load.counter; version = load.count.version; value = load.count.value }

-- what checks loaded of counters
abbrev pub readings_in : (entry : Told) → List Reading
readings_in entry = map reading_of (loads_in entry)

-- ---- growth

-- these stand in the list in this order, each at a place of its own
abbrev pub StandInOrder : {A : Type 0} (told all : List A) → Type 0
StandInOrder [] all = Unit {0}
StandInOrder (x ∷ told) [] = ⊥
StandInOrder (x ∷ told) (y ∷ all) = (x ≡ y) × StandInOrder told all ⊎ StandInOrder (x ∷ told) all

-- A list that got more at its front. What is told is some of this, in the order in which it came: nothing that came once is told twice.
pub record Gained {A : Type 0} (told old new : List A) : Type 0 where
  pub more : List A
  pub longer : new ≡ more ++ old
  pub told_in_order : StandInOrder told (reverse more)

-- the record has these versions: none of them is ahead of a version of which nothing in the record is ahead
abbrev pub HasSeen : (r : CpuRecord) (seen : List Version) → Type 0
HasSeen r seen = (version : ℕ) (x : Counter) → NoneAhead version x r → list_all (is_behind x version) seen ≡ true

-- One relation for all kinds of entry: folds, page events and pages that were found dirty are told just as they were made, each count that checks name
-- was loaded since, in the order in which they name it and each load for one of them, no such load is older than what the CPU had seen, page steps
-- are counted, and no loaded limits are lost.
pub record Grew (added : List Told) (old new : CpuRecord) : Type 0 where
  pub folds : new.folds ≡ onto fold_in added old.folds
  pub events : new.events ≡ onto event_in added old.events
  pub found_dirty : new.found_dirty ≡ onto found_in added old.found_dirty
  pub readings : Gained (flat_map readings_in added) old.readings new.readings
  pub triples : Longer old.triples new.triples
  pub fresh : (cpu : ℕ) → Walks HasSeen CountsAreFresh versions_after old (items_told cpu added) new
  pub page_steps : new.page_steps ≡ old.page_steps + count_by is_page_step added

-- ---- laws

-- no entries tell that nothing changed
abbrev pub GrewByNothing : Type 0
GrewByNothing = (r : CpuRecord) → Grew [] r r

-- two turns one after another
abbrev pub GrewByBoth : Type 0
GrewByBoth = (a b : List Told) (old mid new : CpuRecord) → Grew a old mid → Grew b mid new → Grew (a ++ b) old new

-- in a part that grew from the opening no count is older than what its CPU had seen
abbrev pub GrewIsFresh : Type 0
GrewIsFresh = (added : List Told) (r : CpuRecord) → Grew added no_record r → (cpu : ℕ) → OfPart CountsAreFresh versions_after [] cpu added

-- each of these counts was loaded at least as often as checks tell it
abbrev pub LoadsServeOnce : (added : List Told) (old new : CpuRecord) → Type 0
LoadsServeOnce added old new =
    (which : Reading → Bool) → count_by which (flat_map readings_in added) + count_by which old.readings ≤ count_by which new.readings

-- what checks tell of counts was loaded as often as they tell it: no load serves two checks
abbrev pub GrewServesOnce : Type 0
GrewServesOnce = (added : List Told) (old new : CpuRecord) → Grew added old new → LoadsServeOnce added old new
