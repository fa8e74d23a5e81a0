-- One flusher's waiting list along the entries of its CPU, those of other flushers among them.
use Rattle.std.specs.Prelude.{◌≡◌, ℕ, ◌==◌, if◌then◌else◌, IfSome, List}
use Rattle.wbt_expiry.specs.declared.due.Due.{Due}
use Rattle.wbt_trace.specs.declared.trace.Trace.{Trace}
use Rattle.wbt_journal.specs.Effects.{Wait, effect, of_part}
use Rattle.wbt_journal.specs.Told.{Told}
use Rattle.wbt_journal.specs.Waits.{MayWait, waited}
use Rattle.wbt_run_laws.specs.Walks.{Walked}

-- the list after an entry, which only the flusher's own entries change
abbrev pub list_after : (trace : Trace) (flusher : ℕ) (pairs : List Due) (entry : Told) → List Due
list_after trace flusher pairs entry =
    of_part pairs (λ (wait : Wait). if wait.flusher == flusher then waited trace wait.move pairs else pairs) (effect entry).wait

-- what the flusher's own entries need of its list
abbrev pub WaitsInTurn : (trace : Trace) (flusher : ℕ) (pairs : List Due) (entry : Told) → Type 0
WaitsInTurn trace flusher pairs entry = IfSome (effect entry).wait (λ (wait : Wait). wait.flusher ≡ flusher → MayWait trace flusher wait.move pairs)

-- the list's walk from entry to entry
abbrev pub Waited : (trace : Trace) (flusher : ℕ) (old : List Due) (added : List Told) (new : List Due) → Type 0
Waited trace flusher old added new = Walked (WaitsInTurn trace flusher) (list_after trace flusher) old added new
