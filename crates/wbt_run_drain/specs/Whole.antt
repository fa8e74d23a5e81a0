-- What a run over threads has when the seats of all its workers are together again: what each CPU and the timer told, with what they show
-- and noted at last, and how it ended.
use Rattle.std.specs.Prelude.{◌≡◌, ℕ, ◌+◌, ◌<◌, ◌≤◌, ◌++◌, true, List, length, get_or}
use Rattle.wbt_book.specs.Ledger.{absorbs, all_times, completes, dirties}
use Rattle.wbt_fraction.specs.Notes.{IsComplete}
use Rattle.wbt_fraction.specs.declared.domain.note.Note.{Note}
use Rattle.wbt_grant.specs.State.{deeds_of}
use Rattle.wbt_grant.specs.declared.record.TimerRecord.{TimerRecord}
use Rattle.wbt_journal.specs.Checks.{NoneDue}
use Rattle.wbt_journal.specs.Machine.{contexts, domains, pages}
use Rattle.wbt_journal.specs.Told.{NamesInOrder, told}
use Rattle.wbt_journal.specs.declared.entry.CpuJournal.{CpuJournal}
use Rattle.wbt_journal.specs.declared.journal.Ending.{Ending}
use Rattle.wbt_journal.specs.declared.journal.Ending.TheVariants as ending
use Rattle.wbt_journal.specs.declared.timer.TimerEntry.{TimerEntry}
use Rattle.wbt_kit.specs.Kit.{HasCpu, HasTimer}
use Rattle.wbt_rules.specs.Thresholds.{first_limits}
use Rattle.wbt_kit.specs.declared.kit.Kit.{Kit}
use Rattle.wbt_kit.specs.declared.kit.Seats.{Seats}
use Rattle.wbt_published.specs.Passes.{known_of}
use Rattle.wbt_published.specs.Publishing.{IsComplete as KnowsAll}
use Rattle.wbt_timer.specs.Side.{IsFirstSide, Side, ticked}
use Rattle.wbt_trace.specs.declared.trace.Trace.{Trace}
use Rattle.wbt_run_laws.specs.Closed.{opening_lines}
use Rattle.wbt_run_laws.specs.Noted.{NotedSince}
use Rattle.wbt_run_laws.specs.Notes.{Notes}
use Rattle.wbt_run_laws.specs.Shown.{Shown, first_shown}
use Rattle.wbt_run_laws.specs.Ticks.{Ticked, TimerSince}
use Rattle.wbt_run_laws.specs.Worked.{AllWritten, NoneFailed, NoneWaits, SomeFailed, SomeSpent}
use Rattle.wbt_run_laws.specs.Worker.{empty_log}
use Rattle.wbt_run_seats.specs.Gathered.{AreGathered}
use Rattle.wbt_run_seats.specs.Opened.{IsFirstLeft, IsFirstPart, first_notes}
use Rattle.wbt_run_seats.specs.Parts.{noted, owner_of}
use Rattle.wbt_run_steps.specs.Records.{firsts_of}

-- ---- the CPUs

-- what a CPU's log tells from its first turn on, and what the CPU shows and noted at last
pub record CpuWorked (trace : Trace) (opened cpu : ℕ) (first : Seats) (log : CpuJournal) (last : Shown) (notes : Notes) : Type 0 where
  pub names : NamesInOrder log
  pub since : NotedSince trace opened cpu (told log) (first_shown trace (firsts_of first)) last (first_notes first) notes

-- the log of a CPU
abbrev pub log_at : (logs : List CpuJournal) (cpu : ℕ) → CpuJournal
log_at logs cpu = get_or logs cpu empty_log

-- all CPUs began with parts of the first seats, and the seats have their records
pub record CpusWorked (trace : Trace) (opened : ℕ) (kit : Kit) (logs : List CpuJournal) (first : ℕ → Seats) (last : ℕ → Shown) (notes : ℕ → Notes) (seats : Seats) : Type 0 where
  pub many : length logs ≡ trace.cpus
  pub each : (cpu : ℕ) → cpu < trace.cpus → CpuWorked trace opened cpu (first cpu) (log_at logs cpu) (last cpu) (notes cpu)
  pub firsts : (cpu : ℕ) → cpu < trace.cpus → IsFirstPart kit cpu (first cpu)
  pub held : (cpu : ℕ) → cpu < trace.cpus → HasCpu cpu (last cpu).held seats

-- ---- the timer

-- The timer began with what was left of the first seats. Its log has the limits of the opening, and then what its turns told; the
-- seats have its record.
pub record TimerWorked (trace : Trace) (opened : ℕ) (kit : Kit) (log : List TimerEntry) (last : Ticked) (seats : Seats) : Type 0 where
  pub left : Seats
  pub is_left : IsFirstLeft trace kit left
  pub first : TimerRecord
  pub first_held : HasTimer first left
  pub side : Side
  pub is_first : IsFirstSide trace opened side
  pub ticks : List TimerEntry
  pub logged : log ≡ opening_lines trace opened (first_limits trace opened) ++ ticks
  pub stops : ℕ  -- how often the gate stopped it
  pub since : TimerSince trace opened stops ticks (ticked first side left.share) last
  pub held : HasTimer last.held seats

-- ---- notes

-- the seats have all notes of the CPUs and of the timer, and these are all that were ever made
pub record NotesTogether (trace : Trace) (kit : Kit) (notes : ℕ → Notes) (timer : (domain : ℕ) → List Note) (seats : Seats) : Type 0 where
  pub gathered : AreGathered trace trace.cpus (owner_of kit) notes timer seats
  pub complete : (domain : ℕ) → domain < domains trace → IsComplete (noted seats.share domain)
  pub known : (context : ℕ) → context < contexts trace → (known_of context seats.est).publishes ≡ true → KnowsAll (known_of context seats.est)

-- ---- the ending

-- by the records each dirtying of the page was completed or absorbed
abbrev pub IsCleaned : (trace : Trace) (last : ℕ → Shown) (page : ℕ) → Type 0
IsCleaned trace last page =
    all_times trace.cpus (dirties page) (λ cpu. deeds_of (last cpu).held)
    ≤ all_times trace.cpus (completes page) (λ cpu. deeds_of (last cpu).held) + all_times trace.cpus (absorbs page) (λ cpu. deeds_of (last cpu).held)

-- that of each page was
abbrev pub AreCleaned : (trace : Trace) (last : ℕ → Shown) → Type 0
AreCleaned trace last = (page : ℕ) → page < pages trace → IsCleaned trace last page

-- at the end of each CPU's part no check is due, unless the run was cut off
abbrev pub NoneIsDue : (trace : Trace) (last : ℕ → Shown) (ended : Ending) → Type 0
NoneIsDue trace last ended = (cpu : ℕ) → cpu < trace.cpus → NoneDue ended (last cpu).side

-- each ending with its cause
abbrev pub EndingHasCause : (trace : Trace) (last : ℕ → Shown) (ended : Ending) → Type 0
EndingHasCause trace last ending.Done = NoneFailed trace last × AllWritten trace last × NoneWaits trace last × AreCleaned trace last
EndingHasCause trace last ending.Halted = NoneFailed trace last
EndingHasCause trace last ending.Spent = NoneFailed trace last × SomeSpent trace last
EndingHasCause trace last ending.Faulted = SomeFailed trace last

-- ---- all of it

-- all that is known of a run once the seats of all its workers are together again
pub record HaveWorked (trace : Trace) (opened : ℕ) (kit : Kit) (logs : List CpuJournal) (timer : List TimerEntry) (ended : Ending) (seats : Seats) : Type 0 where
  pub first : ℕ → Seats
  pub last : ℕ → Shown
  pub notes : ℕ → Notes
  pub ticks : Ticked
  pub cpus : CpusWorked trace opened kit logs first last notes seats
  pub timer_is : TimerWorked trace opened kit timer ticks seats
  pub together : NotesTogether trace kit notes ticks.shares seats
  pub ends : EndingHasCause trace last ended
  pub none_due : NoneIsDue trace last ended
