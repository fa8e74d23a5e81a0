-- What a CPU's part of a journal tells: its entries, with the checks and estimates that they name in their places.
use Rattle.std.specs.Prelude.{◌≡◌, ℕ, ◌+◌, Bool, List, [], ◌∷◌, length, flat_map, slice_get, Option, Some, None, ⊤}
use Rattle.wbt_counter.specs.declared.record.Fold.{Fold}
use Rattle.wbt_journal.specs.declared.entry.Entry.{Entry}
use Rattle.wbt_journal.specs.declared.entry.Entry.TheVariants as entry
use Rattle.wbt_journal.specs.declared.entry.CheckEntry.{CheckEntry}
use Rattle.wbt_journal.specs.declared.entry.EstEntry.{EstEntry}
use Rattle.wbt_journal.specs.declared.entry.CpuJournal.{CpuJournal}

-- an entry with what it tells; moments are in ticks, domains, contexts, tasks, flushers, inodes and pages are numbers of the trace
pub data Told : Type 0 where
  wrote : (task page : ℕ) (fresh : Bool) → Told
  folded : (fold : Fold) → Told
  checked : (check : CheckEntry) → Told
  claimed : (flusher page : ℕ) → Told
  batch : (flusher pages now until : ℕ) → Told
  done : (flusher page : ℕ) → Told
  share : (domain context n : ℕ) → Told
  estimated : (est : EstEntry) → Told
  fault : (flusher pages : ℕ) → Told
  gave_back : (flusher page : ℕ) (absorbed : Bool) → Told
  noticed : (flusher inode since : ℕ) → Told
  aged : (flusher inode due now : ℕ) → Told
  took : (flusher inode : ℕ) → Told

-- an entry of a flusher's writeback: a page claimed, completed or given back, or pages handed to a disk or failed by it
abbrev pub IsWriteback : (entry : Entry) → Type 0
IsWriteback (entry.Claimed flusher page) = ⊤
IsWriteback (entry.Batch flusher pages now until) = ⊤
IsWriteback (entry.Done flusher page) = ⊤
IsWriteback (entry.Fault flusher pages) = ⊤
IsWriteback (entry.Back flusher page absorbed) = ⊤
IsWriteback other = ⊥

-- an entry of a flusher's waiting list: an inode noticed, or taken from it
abbrev pub IsWaiting : (entry : Entry) → Type 0
IsWaiting (entry.Noticed flusher inode since) = ⊤
IsWaiting (entry.Aged flusher inode due now) = ⊤
IsWaiting (entry.Taken flusher inode) = ⊤
IsWaiting other = ⊥

-- a name that has no place in its list tells nothing
abbrev pub one_checked : (which : Option CheckEntry) → List Told
one_checked None = []
one_checked (Some check) = checked check ∷ []

-- the same for an estimate
abbrev pub one_estimated : (which : Option EstEntry) → List Told
one_estimated None = []
one_estimated (Some est) = estimated est ∷ []

-- an entry with the check or the estimate that it names by its place
abbrev pub told_entry : (checks : List CheckEntry) (estimates : List EstEntry) (entry : Entry) → List Told
told_entry checks estimates (entry.Write task page fresh) = wrote task page fresh ∷ []
told_entry checks estimates (entry.Folded fold) = folded fold ∷ []
told_entry checks estimates (entry.Check place) = one_checked (slice_get checks place)
told_entry checks estimates (entry.Claimed flusher page) = claimed flusher page ∷ []
told_entry checks estimates (entry.Batch flusher pages now until) = batch flusher pages now until ∷ []
told_entry checks estimates (entry.Done flusher page) = done flusher page ∷ []
told_entry checks estimates (entry.Share domain context n) = share domain context n ∷ []
told_entry checks estimates (entry.Est place) = one_estimated (slice_get estimates place)
told_entry checks estimates (entry.Fault flusher pages) = fault flusher pages ∷ []
told_entry checks estimates (entry.Back flusher page absorbed) = gave_back flusher page absorbed ∷ []
told_entry checks estimates (entry.Noticed flusher inode since) = noticed flusher inode since ∷ []
told_entry checks estimates (entry.Aged flusher inode due now) = aged flusher inode due now ∷ []
told_entry checks estimates (entry.Taken flusher inode) = took flusher inode ∷ []

-- the entries of a CPU's part in order
abbrev pub told : (part : CpuJournal) → List Told
told part = flat_map (told_entry part.checks part.estimates) part.entries

-- From these places on the entries name checks and estimates in order, up to the ends of both lists
abbrev pub InOrder : (checks estimates check est : ℕ) (entries : List Entry) → Type 0
InOrder checks estimates check est [] = (check ≡ checks) × (est ≡ estimates)
InOrder checks estimates check est (entry.Check place ∷ more) = (place ≡ check) × InOrder checks estimates (check + 1) est more
InOrder checks estimates check est (entry.Est place ∷ more) = (place ≡ est) × InOrder checks estimates check (est + 1) more
InOrder checks estimates check est (other ∷ more) = InOrder checks estimates check est more

-- a part whose entries name all its checks and estimates, each once, in order
abbrev pub NamesInOrder : (part : CpuJournal) → Type 0
NamesInOrder part = InOrder (length part.checks) (length part.estimates) 0 0 part.entries

-- the check with this mark, the one field that no line tells
abbrev pub marked_as : (exceeded : Bool) (check : CheckEntry) → CheckEntry
marked_as exceeded check = record check { decision = record check.decision { exceeded = exceeded } }
