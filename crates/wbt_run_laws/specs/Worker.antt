-- A worker between two turns: what its CPU shows and notes, with its log.
use Rattle.std.specs.Prelude.{◌≡◌, ℕ, ◌+◌, List, [], ◌++◌}
use Rattle.wbt_trace.specs.declared.trace.Trace.{Trace}
use Rattle.wbt_journal.specs.Told.{Told, told, NamesInOrder}
use Rattle.wbt_journal.specs.declared.entry.CpuJournal.{CpuJournal}
use Rattle.wbt_journal.specs.declared.timer.TimerEntry.{TimerEntry}
use Rattle.wbt_run_laws.specs.Log.{Logged}
use Rattle.wbt_run_laws.specs.Noted.{NotedWriterTurn, NotedFlusherTurn, NotedSince}
use Rattle.wbt_run_laws.specs.Notes.{Notes}
use Rattle.wbt_run_laws.specs.Shown.{Shown}
use Rattle.wbt_run_laws.specs.Ticks.{Ticked, TimerSince}

-- what a CPU shows and notes between two turns, and its log
pub record Worker : Type 0 where
  pub shown : Shown
  pub notes : Notes
  pub log : CpuJournal

-- a turn of the CPU's writers: its log tells some entries more, and these tell what became of all else
pub record WritersTook (trace : Trace) (opened cpu : ℕ) (old new : Worker) : Type 0 where
  pub added : List Told
  pub logged : Logged added old.log new.log
  pub turn : NotedWriterTurn trace opened cpu added old.shown new.shown old.notes new.notes

-- a turn of one of its flushers
pub record FlusherTook (trace : Trace) (opened cpu flusher : ℕ) (old new : Worker) : Type 0 where
  pub added : List Told
  pub logged : Logged added old.log new.log
  pub turn : NotedFlusherTurn trace opened cpu flusher added old.shown new.shown old.notes new.notes

-- any turns, one after another
pub record Went (trace : Trace) (opened cpu : ℕ) (old new : Worker) : Type 0 where
  pub added : List Told
  pub logged : Logged added old.log new.log
  pub since : NotedSince trace opened cpu added old.shown new.shown old.notes new.notes

-- the timer's worker
pub record TimerWorker : Type 0 where
  pub ticked : Ticked
  pub log : List TimerEntry

-- any of its turns, so many of which the gate stopped
pub record TimerWent (trace : Trace) (opened stops : ℕ) (old new : TimerWorker) : Type 0 where
  pub added : List TimerEntry
  pub logged : new.log ≡ old.log ++ added
  pub since : TimerSince trace opened stops added old.ticked new.ticked

-- ---- laws

-- a single turn of the CPU's writers counts as turns of the CPU
abbrev pub WritersGo : Type 0
WritersGo = (trace : Trace) (opened cpu : ℕ) (old new : Worker) → WritersTook trace opened cpu old new → Went trace opened cpu old new

-- a single turn of one of its flushers counts as turns of the CPU
abbrev pub FlusherGoes : Type 0
FlusherGoes = (trace : Trace) (opened cpu flusher : ℕ) (old new : Worker) → FlusherTook trace opened cpu flusher old new
    → Went trace opened cpu old new

-- without a turn all stays as it is
abbrev pub WentNowhere : Type 0
WentNowhere = (trace : Trace) (opened cpu : ℕ) (worker : Worker) → Went trace opened cpu worker worker

-- turns compose, one stretch of them after another
abbrev pub WentOn : Type 0
WentOn = (trace : Trace) (opened cpu : ℕ) (old mid new : Worker) → Went trace opened cpu old mid → Went trace opened cpu mid new
    → Went trace opened cpu old new

-- a log that was empty tells just what was done since, and names its checks and estimates in order
pub record WholeLog (trace : Trace) (opened cpu : ℕ) (old new : Worker) : Type 0 where
  pub names : NamesInOrder new.log
  pub since : NotedSince trace opened cpu (told new.log) old.shown new.shown old.notes new.notes

-- a log before the first turn
abbrev pub empty_log : CpuJournal
empty_log = record { entries = []; checks = []; estimates = [] }

-- a log that was empty before some turns tells just what they did, and names its checks and estimates in order
abbrev pub LogIsWhole : Type 0
LogIsWhole = (trace : Trace) (opened cpu : ℕ) (old new : Worker) → old.log ≡ empty_log → Went trace opened cpu old new
    → WholeLog trace opened cpu old new

-- without a turn of the timer all stays as it is
abbrev pub TimerWentNowhere : Type 0
TimerWentNowhere = (trace : Trace) (opened : ℕ) (worker : TimerWorker) → TimerWent trace opened 0 worker worker

-- turns of the timer compose, and the stops of the gate add up
abbrev pub TimerWentOn : Type 0
TimerWentOn = (trace : Trace) (opened m n : ℕ) (old mid new : TimerWorker) → TimerWent trace opened m old mid → TimerWent trace opened n mid new
    → TimerWent trace opened (m + n) old new

-- a timer's log that was empty before some turns tells just what they did
abbrev pub TimerLogIsWhole : Type 0
TimerLogIsWhole = (trace : Trace) (opened stops : ℕ) (old new : TimerWorker) → old.log ≡ [] → TimerWent trace opened stops old new
    → TimerSince trace opened stops new.log old.ticked new.ticked
