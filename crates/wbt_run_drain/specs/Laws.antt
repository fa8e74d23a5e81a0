-- The journal of what all workers told is lawful.
use Rattle.std.specs.Prelude.{◌≡◌, ℕ, List, []}
use Rattle.wbt_trace.specs.Lawful.{IsLawful as IsLawfulTrace}
use Rattle.wbt_trace.specs.declared.trace.Trace.{Trace}
use Rattle.wbt_table.specs.Census.{Closes, Counted}
use Rattle.wbt_journal.specs.Lawful.{DirtiedWereCompleted, FoundWereDirtied, IsLawful}
use Rattle.wbt_journal.specs.Machine.{pages}
use Rattle.wbt_journal.specs.declared.entry.CpuJournal.{CpuJournal}
use Rattle.wbt_journal.specs.declared.journal.Ending.{Ending}
use Rattle.wbt_journal.specs.declared.journal.Journal.{Journal}
use Rattle.wbt_journal.specs.declared.journal.Left.{Left}
use Rattle.wbt_journal.specs.declared.timer.TimerEntry.{TimerEntry}
use Rattle.wbt_kit.specs.Kit.{AreSeatsOf, IsKitOf}
use Rattle.wbt_kit.specs.declared.kit.Kit.{Kit}
use Rattle.wbt_kit.specs.declared.kit.Seats.{Seats}
use Rattle.wbt_run_laws.specs.Laws.{NoneWaitsWhenDone}
use Rattle.wbt_run_laws.specs.Throttle.{left_from}
use Rattle.wbt_run_seats.specs.Left.{book_of}
use Rattle.wbt_run_drain.specs.Whole.{HaveWorked}

-- the journal of a run, which has no steps and no lines of strict devices
abbrev pub journal_of : (logs : List CpuJournal) (timer : List TimerEntry) (left : List Left) (ended : Ending) → Journal
journal_of logs timer left ended = record { timer = timer; cpus = logs; steps = []; bases = []; homes = []; left = left; strict = []; ending = ended }

-- Of workers whose seats are together again this holds: of their trace, and of the journal of their logs with what is left in the closed
-- throttle.
abbrev pub OfWork : (Holds : (trace : Trace) (j : Journal) → Type 0) → Type 0
OfWork Holds = (trace : Trace) (opened : ℕ) (kit : Kit) (seats : Seats) (census : Counted) (logs : List CpuJournal) (timer : List TimerEntry) (left : List Left) (ended : Ending)
    → IsLawfulTrace trace → IsKitOf trace opened kit → AreSeatsOf kit seats → HaveWorked trace opened kit logs timer ended seats
    → Closes seats.cpu census → left ≡ left_from (book_of census) 0 (pages trace) → Holds trace (journal_of logs timer left ended)

-- the journal is lawful for the trace
abbrev pub WorkIsLawful : Type 0
WorkIsLawful = OfWork IsLawful

-- and each page that a write found dirty was dirtied by a write that it tells
abbrev pub WorkFoundDirtied : Type 0
WorkFoundDirtied = OfWork (λ trace j. FoundWereDirtied j)

-- and each page that was dirtied was completed, or is left
abbrev pub WorkDirtiedCompleted : Type 0
WorkDirtiedCompleted = OfWork DirtiedWereCompleted

-- and where all is done no inode waits for its age
abbrev pub WorkNoneWaits : Type 0
WorkNoneWaits = OfWork NoneWaitsWhenDone
