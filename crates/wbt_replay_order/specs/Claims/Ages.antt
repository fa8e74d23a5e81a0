-- Writeback by age: what is taken for its age has waited for as long as its context asks, and was due.
use Rattle.std.specs.Prelude.{◌≡◌, ℕ, ◌≤◌, List, [], ◌∷◌, ◌++◌, Contains}
use Rattle.wbt_trace.specs.declared.trace.Trace.{Trace}
use Rattle.wbt_journal.specs.Items.{parts_of}
use Rattle.wbt_journal.specs.Lawful.{EachPart}
use Rattle.wbt_journal.specs.Told.{Told, noticed, aged}
use Rattle.wbt_journal.specs.Walk.{Along}
use Rattle.wbt_journal.specs.declared.journal.Journal.{Journal}
use Rattle.wbt_rules.specs.Age.{due_after}

-- Among the entries before, the flusher noticed the inode. It is due for its context's time after that moment, and is by now.
pub record WasDue (trace : Trace) (flusher inode due now : ℕ) (before : List Told) : Type 0 where
  pub since : ℕ
  pub told : Contains before (noticed flusher inode since)
  pub moment : due ≡ due_after trace inode since
  pub by_now : due ≤ now

-- so where an entry tells that an inode is taken for its age
abbrev pub AgedWasDue : (trace : Trace) (before : List Told) (entry : Told) → Type 0
AgedWasDue trace before (aged flusher inode due now) = WasDue trace flusher inode due now before
AgedWasDue trace before other = Unit {0}

-- the entries before and one more
abbrev pub and_then : (before : List Told) (entry : Told) → List Told
and_then before entry = before ++ entry ∷ []

-- in each CPU's part, along its entries
abbrev pub AgedWereDue : (trace : Trace) (j : Journal) → Type 0
AgedWereDue trace j = EachPart (λ cpu part. Along (AgedWasDue trace) and_then [] part) 0 (parts_of j)
