-- Each point of a lawful journal of a run over threads, and all of them at once.
use Rattle.std.specs.Prelude.{◌≡◌, ℕ, ◌<◌, []}
use Rattle.wbt_trace.specs.declared.trace.Trace.{Trace}
use Rattle.wbt_journal.specs.Lawful.{IsLawful, FoldsAreUp, CountsSumFolds, CountsStayFresh, TriplesAreOfTimer, TriplesStayNew, FractionsAreOfShares, PeriodsStayNew, EstimatesAreUp, NamesAreOfEstimates, NamesStayNew, ChecksAreRight, TimerFollows, TimerHasOpened, WritesAreInOrder, LeftPagesAreThere, LedgerIsEven, FoundWereDirtied, DirtiedWereCompleted, FlushersAreInTurn, WaitsAreInOrder, WaitsAreOwn, LeftIsBounded, EndingIsRight}
use Rattle.wbt_journal.specs.Leaves.{LeftFrom}
use Rattle.wbt_journal.specs.Waits.{first_lists, list_of, lists_after}
use Rattle.wbt_journal.specs.Walk.{after}
use Rattle.wbt_journal.specs.declared.journal.Ending.TheVariants as ending
use Rattle.wbt_journal.specs.declared.journal.Journal.{Journal}
use Rattle.wbt_run_laws.specs.Walks.{items_told}
use Rattle.wbt_run_laws.specs.Worked.{part_at, Run, Worked}

-- ---- folds, counts and triples, from the records and the closed table

-- the versions of a counter's n folds are 1 to n, each once, and each fold moves a batch
abbrev pub WorkedFoldsAreUp : Type 0
WorkedFoldsAreUp = (trace : Trace) (j : Journal) (r : Run) → Worked trace j r → FoldsAreUp trace j

-- each count that a check loaded is the sum of the folds up to its version
abbrev pub WorkedCountsSumFolds : Type 0
WorkedCountsSumFolds = (trace : Trace) (j : Journal) (r : Run) → Worked trace j r → CountsSumFolds trace j

-- no count that a check loaded is older than what its CPU had seen
abbrev pub WorkedCountsStayFresh : Type 0
WorkedCountsStayFresh = (trace : Trace) (j : Journal) (r : Run) → Worked trace j r → CountsStayFresh j

-- each triple that a check read was published by the timer
abbrev pub WorkedTriplesAreOfTimer : Type 0
WorkedTriplesAreOfTimer = (trace : Trace) (j : Journal) (r : Run) → Worked trace j r → TriplesAreOfTimer j

-- no triple that a check read is older than what its CPU had read
abbrev pub WorkedTriplesStayNew : Type 0
WorkedTriplesStayNew = (trace : Trace) (j : Journal) (r : Run) → Worked trace j r → TriplesStayNew j

-- ---- shares and estimates, from the notes

-- each fraction is of a period of its domain, of no more than was added
abbrev pub WorkedFractionsAreOfShares : Type 0
WorkedFractionsAreOfShares = (trace : Trace) (j : Journal) (r : Run) → Worked trace j r → FractionsAreOfShares trace j

-- no fraction that a check read is of an earlier period than its CPU had read
abbrev pub WorkedPeriodsStayNew : Type 0
WorkedPeriodsStayNew = (trace : Trace) (j : Journal) (r : Run) → Worked trace j r → PeriodsStayNew j

-- the estimates of each context follow one another
abbrev pub WorkedEstimatesAreUp : Type 0
WorkedEstimatesAreUp = (trace : Trace) (j : Journal) (r : Run) → Worked trace j r → EstimatesAreUp trace j

-- each check names an estimate that its context has
abbrev pub WorkedNamesAreOfEstimates : Type 0
WorkedNamesAreOfEstimates = (trace : Trace) (j : Journal) (r : Run) → Worked trace j r → NamesAreOfEstimates trace j

-- no check names an older estimate than its CPU had named
abbrev pub WorkedNamesStayNew : Type 0
WorkedNamesStayNew = (trace : Trace) (j : Journal) (r : Run) → Worked trace j r → NamesStayNew j

-- ---- checks, tasks and flushers, from the turns

-- checks stand exactly where they are due, and decide as the law asks
abbrev pub WorkedChecksAreRight : Type 0
WorkedChecksAreRight = (trace : Trace) (j : Journal) (r : Run) → Worked trace j r → ChecksAreRight trace j

-- each task writes its pages in order, on its CPU
abbrev pub WorkedWritesAreInOrder : Type 0
WorkedWritesAreInOrder = (trace : Trace) (j : Journal) (r : Run) → Worked trace j r → WritesAreInOrder trace j

-- each flusher claims, hands over, and completes or gives back in turn
abbrev pub WorkedFlushersAreInTurn : Type 0
WorkedFlushersAreInTurn = (trace : Trace) (j : Journal) (r : Run) → Worked trace j r → FlushersAreInTurn trace j

-- each flusher takes inodes in order of the moments at which they are due
abbrev pub WorkedWaitsAreInOrder : Type 0
WorkedWaitsAreInOrder = (trace : Trace) (j : Journal) (r : Run) → Worked trace j r → WaitsAreInOrder trace j

-- each flusher notices and takes inodes in its own CPU's part
abbrev pub WorkedWaitsAreOwn : Type 0
WorkedWaitsAreOwn = (trace : Trace) (j : Journal) (r : Run) → Worked trace j r → WaitsAreOwn trace j

-- ---- the timer

-- each line of the timer follows those before it
abbrev pub WorkedTimerFollows : Type 0
WorkedTimerFollows = (trace : Trace) (j : Journal) (r : Run) → Worked trace j r → TimerFollows trace j

-- each domain has its line of the opening
abbrev pub WorkedTimerHasOpened : Type 0
WorkedTimerHasOpened = (trace : Trace) (j : Journal) (r : Run) → Worked trace j r → TimerHasOpened trace j

-- ---- what is left

-- pages that are left stand in order, each once, and are dirty or under writeback
abbrev pub WorkedLeftIsInOrder : Type 0
WorkedLeftIsInOrder = (trace : Trace) (j : Journal) (r : Run) → Worked trace j r → LeftFrom 0 j.left

-- pages that are left are pages of the trace
abbrev pub WorkedLeftPagesAreThere : Type 0
WorkedLeftPagesAreThere = (trace : Trace) (j : Journal) (r : Run) → Worked trace j r → LeftPagesAreThere trace j

-- each page's ledger is even: claims balance writes that dirtied it, and completions balance claims, but for what is left
abbrev pub WorkedLedgerIsEven : Type 0
WorkedLedgerIsEven = (trace : Trace) (j : Journal) (r : Run) → Worked trace j r → LedgerIsEven trace j

-- and each page that a write found dirty was dirtied by a write that is told
abbrev pub WorkedFoundWereDirtied : Type 0
WorkedFoundWereDirtied = (trace : Trace) (j : Journal) (r : Run) → Worked trace j r → FoundWereDirtied j

-- and each page that a write dirtied was completed or is left
abbrev pub WorkedDirtiedWereCompleted : Type 0
WorkedDirtiedWereCompleted = (trace : Trace) (j : Journal) (r : Run) → Worked trace j r → DirtiedWereCompleted trace j

-- where all is done no inode waits for its age at the end of any part
abbrev pub NoneWaitsWhenDone : (trace : Trace) (j : Journal) → Type 0
NoneWaitsWhenDone trace j = j.ending ≡ ending.Done → (cpu flusher : ℕ) → cpu < trace.cpus
    → list_of (after (lists_after trace) (first_lists trace.flushers) (items_told cpu (part_at j cpu))) flusher ≡ []

-- where all is done no inode waits in the journal of a run
abbrev pub WorkedNoneWaitsWhenDone : Type 0
WorkedNoneWaitsWhenDone = (trace : Trace) (j : Journal) (r : Run) → Worked trace j r → NoneWaitsWhenDone trace j

-- no domain has more pages left than its bound
abbrev pub WorkedLeftIsBounded : Type 0
WorkedLeftIsBounded = (trace : Trace) (j : Journal) (r : Run) → Worked trace j r → LeftIsBounded trace j

-- the journal ends as its entries and what is left allow
abbrev pub WorkedEndingIsRight : Type 0
WorkedEndingIsRight = (trace : Trace) (j : Journal) (r : Run) → Worked trace j r → EndingIsRight trace j

-- ---- all of it

-- the journal of a run of threads is lawful
abbrev pub WorkedIsLawful : Type 0
WorkedIsLawful = (trace : Trace) (j : Journal) (r : Run) → Worked trace j r → IsLawful trace j
