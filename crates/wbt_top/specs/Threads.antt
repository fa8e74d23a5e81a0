-- What the program writes of runs over threads.
use Rattle.std.specs.Prelude.{◌≡◌, ◌↔◌, ◌⊎◌, ℕ, ⊤, Bool, List, Option, Some}
use Rattle.wbt_io.specs.Pages.{Grows}
use Rattle.wbt_io.specs.Told.{GainsPart}
use Rattle.wbt_trace.specs.Bulk.{bulk_trace}
use Rattle.wbt_trace.specs.declared.trace.Trace.{Trace}
use Rattle.wbt_trace_text.specs.declared.fault.TraceFault.{TraceFault}
use Rattle.wbt_journal.specs.Text.{journal_text}
use Rattle.wbt_journal.specs.declared.journal.Journal.{Journal}
use Rattle.wbt_run.specs.Running.{IsDone, IsFaulted, IsHalted, IsRunOf, IsSpent}
use Rattle.wbt_top_plain.specs.Top.{IsRead}
use Rattle.wbt_top_plain.specs.declared.status.Status.{Status}
use Rattle.wbt_top_plain.specs.declared.status.Status.TheVariants.{Good, BadWords, BadTrace, ReadFault, WriteFault, DiskFault, NoMemory, Spent, TooLong}
use Rattle.wbt_top_plain.specs.declared.status.Words.{Words}
use Rattle.wbt_top_plain.specs.Bulk.{IsBulk, IsRun, RunsThreads, bulk_line, bulk_text}
use Rattle.wbt_top_sums.specs.Sums.{AddsUp}
use Rattle.wbt_top_plain.specs.Written.{IsWritten, IsWrittenUnless}

-- ---- the runs

-- all was done, or the gate stopped a CPU
abbrev pub Finishes : (said : ℕ → ℕ → Bool → Type 0) (trace : Trace) (j : Journal) → Type 0
Finishes said trace j = IsDone trace j ⊎ IsHalted said trace j

-- A run of the trace ended for this cause, and its text was written so. Its journal is lawful for the trace, the clock told its moments,
-- the disks have written the pages of its batches and failed as often as it tells at least, and it adds up.
pub record Ran (told : ℕ → Type 0) (trace : Trace) (pages pages' : Option ℕ) (faults faults' : ℕ) (Cause : Journal → Type 0) (text : Journal → List ℕ)
    (Wrote : (bytes : List ℕ) → Type 0) : Type 0 where
  pub journal : Journal
  pub run : IsRunOf told trace pages pages' faults faults' journal
  pub sums : AddsUp journal
  pub cause : Cause journal
  pub wrote : Wrote (text journal)

-- this holds of the trace that was read
abbrev pub OfRead : (left : Option (List ℕ)) (Holds : (trace : Trace) → Type 0) → Type 0
OfRead left Holds = (trace : Trace) × IsRead trace left × Holds trace

-- This holds of the trace that a command runs, and of what it writes of the run's journal: `run` the whole text of a trace that was read,
-- `bulk` one line of the trace of so many pages.
pub record OfCommand (words : Words) (left : Option (List ℕ)) (Holds : (trace : Trace) (text : Journal → List ℕ) → Type 0) : Type 0 where
  pub run : IsRun words → OfRead left (λ trace. Holds trace journal_text)
  pub bulk : (n : ℕ) → IsBulk n words → Holds (bulk_trace n) (bulk_text n)

-- What was run, and what was written of it, by how the call ended. Behind the gate a run that isn't cut off ends so.
pub record RunsAndWrites (Ends : (trace : Trace) (j : Journal) → Type 0) (ended : Status) (words : Words) (left : Option (List ℕ)) (told : ℕ → Type 0)
    (pages pages' : Option ℕ) (faults faults' : ℕ) (before now : Option (List ℕ)) (failed : Type 0) : Type 0 where
  -- At the good status the trace was run, for `run` the one that was read, for `bulk N` the one of N pages. The bytes written are, whole, the
  -- text of the run's journal, or the line of `bulk`.
  pub good : ended ≡ Good → OfCommand words left (λ trace text. Ran told trace pages pages' faults faults' (Ends trace) text (IsWritten before now))
  -- After a write fault the same holds, and the sink has a part of that text, from its first byte on and without its last.
  pub part : ended ≡ WriteFault → OfCommand words left (λ trace text. Ran told trace pages pages' faults faults' (Ends trace) text (GainsPart before now))
  -- After a disk fault the same holds, but that the rack's count of faults rose by eight or more and the journal tells eight faults of one
  -- flusher. The text was written whole, or a part of it where the sink's count rose too.
  pub faulted : ended ≡ DiskFault
      → OfCommand words left (λ trace text. Ran told trace pages pages' faults faults' (IsFaulted trace faults faults') text (IsWrittenUnless failed before now))
  -- Likewise at the status spent, where a CPU's part of the journal tells all 2^33 page steps that a CPU may make.
  pub spent : ended ≡ Spent
      → OfCommand words left (λ trace text. Ran told trace pages pages' faults faults' IsSpent text (IsWrittenUnless failed before now))

-- The line of a bulk run that is done was written: all its pages were dirtied and cleaned, each once, none is left, and the disks wrote so
-- many.
pub record IsBulkDone (n : ℕ) (pages pages' : Option ℕ) (before now : Option (List ℕ)) : Type 0 where
  pub disks : Grows (Some n) pages pages'
  pub wrote : IsWritten before now (bulk_line n n n 0)

-- ---- the status

-- Which statuses the words may have.
pub record FitsThreads (ended : Status) (words : Words) : Type 0 where
  -- It is that of bad words exactly where the words are neither `run` nor `bulk` and a number from 4 to 2097152, spelled as in a trace.
  pub bad_words : (ended ≡ BadWords) ↔ (¬ RunsThreads words)
  -- Only `run` has a read fault: `bulk` reads nothing.
  pub read_fault : ended ≡ ReadFault → IsRun words
  -- Only its input is too long.
  pub too_long : ended ≡ TooLong → IsRun words
  -- Only its text is refused.
  pub bad_trace : (fault : TraceFault) → ended ≡ BadTrace fault → IsRun words

-- what a good input ends with where neither source nor sink fails
abbrev pub IsServed : (status : Status) → Type 0
IsServed Good = ⊤
IsServed NoMemory = ⊤
IsServed Spent = ⊤
IsServed DiskFault = ⊤
IsServed _ = ⊥
