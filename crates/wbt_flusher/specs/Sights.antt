-- What is seen of a flusher, of its seats and of its log, before a call and after it.
use Rattle.std.specs.Prelude.{◌≡◌, ℕ, ◌+◌, ◌<◌, ◌≤◌, ◌==◌, ◌||◌, if◌then◌else◌, Bool, true, false, List, [], ◌∷◌, drop, length, get_or, slice_index_or, Option, Some, None}
use Rattle.wbt_expiry.specs.declared.due.Due.{Due}
use Rattle.wbt_book.specs.Ledger.{times}
use Rattle.wbt_book.specs.declared.event.Event.{Event}
use Rattle.wbt_book.specs.declared.event.Event.TheVariants.{Dirty, Claim, Complete, Redirty, Absorb}
use Rattle.wbt_grant.specs.declared.record.CpuRecord.{CpuRecord}
use Rattle.wbt_fraction.specs.Several as fraction
use Rattle.wbt_fraction.specs.Several.{no_seat}
use Rattle.wbt_published.specs.Passes as est
use Rattle.wbt_published.specs.Passes.{known_of}
use Rattle.wbt_table.specs.Rule.{Cpus}
use Rattle.wbt_journal.specs.Flights as flights
use Rattle.wbt_journal.specs.declared.entry.CpuJournal.{CpuJournal}
use Rattle.wbt_rules.specs.Places.{IsAhead}
use Rattle.wbt_run_laws.specs.Notes.{Notes, no_fraction}
use Rattle.wbt_run_laws.specs.Shown.{Shown, ShownFlusher}
use Rattle.wbt_run_laws.specs.Worker.{Worker}
use Rattle.wbt_kit.specs.declared.kit.Seats.{Seats}
use Rattle.wbt_run_steps.specs.Records.{record_of}
use Rattle.wbt_flusher.specs.Ages.{pairs_of}
use Rattle.wbt_flusher.specs.declared.plan.FlusherPlan.{FlusherPlan}
use Rattle.wbt_flusher.specs.declared.tally.Tallies.{Tallies}
use Rattle.wbt_flusher.specs.declared.tally.Tally.{Tally}
use Rattle.wbt_counter.specs.Sums.{total}
use Rattle.wbt_flusher.specs.declared.work.Phase.{Phase}
use Rattle.wbt_flusher.specs.declared.work.Phase.TheVariants.{Idle, Scanning, Flying, Returning, Failed}
use Rattle.wbt_flusher.specs.declared.work.FlusherWork.{FlusherWork}
use Rattle.wbt_flusher.specs.Plans.{context_of, group_of}

-- what a flusher keeps, its seats and its log, at one moment
pub record Sight : Type 0 where
  pub work : FlusherWork
  pub seats : Seats
  pub log : CpuJournal
  pub written : Option ℕ  -- by the disk, where it tells it

-- a sight of its parts
abbrev pub sight : (work : FlusherWork) (seats : Seats) (log : CpuJournal) (written : Option ℕ) → Sight
sight work seats log written = record { work = work; seats = seats; log = log; written = written }

-- ---- the CPU's record

-- the record of the flusher's CPU, as the seats hold it
abbrev pub record_in : (plan : FlusherPlan) (s : Sight) → CpuRecord
record_in plan s = record_of plan.cpu s.seats.cpu.cpus

-- ---- the flusher's phase, and its faults

-- the phase that a journal shows of the flusher
abbrev pub phase_by : (batch : List ℕ) (phase : Phase) → flights.ToldPhase
phase_by batch (Idle until kept) = flights.scanning []
phase_by batch (Scanning scan) = flights.scanning batch
phase_by batch (Flying flight) = flights.emptied (drop flight.landed batch)
phase_by batch (Returning giving) = flights.returned (drop giving.returned batch)
phase_by batch Failed = flights.failed

-- the flusher as a journal shows it: its phase and its faults
abbrev pub flusher_by : (work : FlusherWork) → flights.ToldFlusher
flusher_by work = record { phase = phase_by work.batch.items work.phase; faults = work.faults }

-- the flusher as a journal shows it, at a sight
abbrev pub flusher_in : (s : Sight) → flights.ToldFlusher
flusher_in s = flusher_by s.work

-- the list of the inodes that wait
abbrev pub list_by : (work : FlusherWork) → List Due
list_by work = pairs_of work.wheel

-- what its CPU shows of it
abbrev pub shown_by : (work : FlusherWork) → ShownFlusher
shown_by work = record { told = flusher_by work; waits = list_by work }

-- the pages that it claimed and has neither completed nor given back
abbrev pub pages_by : (batch : List ℕ) (phase : Phase) → List ℕ
pages_by batch (Idle until kept) = []
pages_by batch (Scanning scan) = batch
pages_by batch (Flying flight) = drop flight.landed batch
pages_by batch (Returning giving) = drop giving.returned batch
pages_by batch Failed = batch

-- the pages that it holds, at a sight
abbrev pub pages_in : (s : Sight) → List ℕ
pages_in s = pages_by s.work.batch.items s.work.phase

-- ---- what it owes itself: while it scans, the rescans of the inode's pages that it hasn't passed, and the inode's mark where one is
-- noted; while it gives a batch back, the mark of the batch's inode

-- the flusher owes a rescan of the page itself: its scan hasn't passed it
abbrev pub OwesRescan : (plan : FlusherPlan) (phase : Phase) (page : ℕ) → Type 0
OwesRescan plan (Scanning scan) page = IsAhead scan page
OwesRescan plan (Idle until kept) page = ⊥
OwesRescan plan (Flying flight) page = ⊥
OwesRescan plan (Returning giving) page = ⊥
OwesRescan plan Failed page = ⊥

-- the flusher owes the inode's mark itself
abbrev pub OwesMark : (phase : Phase) (inode : ℕ) → Type 0
OwesMark (Scanning scan) inode = (scan.noted ≡ true) × (inode ≡ scan.inode)
OwesMark (Idle until kept) inode = ⊥
OwesMark (Flying flight) inode = ⊥
OwesMark (Returning giving) inode = inode ≡ giving.inode
OwesMark Failed inode = ⊥

-- ---- completions

-- whether an event completes a page
abbrev pub is_completion : (event : Event) → Bool
is_completion (Dirty p) = false
is_completion (Claim p) = false
is_completion (Complete p) = true
is_completion (Redirty p) = false
is_completion (Absorb p) = false

-- how many pages a CPU has completed
abbrev pub completions : (r : CpuRecord) → ℕ
completions r = times is_completion r.events

-- of all CPUs that the seats hold
abbrev pub all_completions : (cpus : Cpus) → ℕ
all_completions [] = 0
all_completions (None ∷ cpus) = all_completions cpus
all_completions (Some r ∷ cpus) = completions r + all_completions cpus

-- how many CPUs they hold
abbrev pub held_cpus : (cpus : Cpus) → ℕ
held_cpus [] = 0
held_cpus (None ∷ cpus) = held_cpus cpus
held_cpus (Some r ∷ cpus) = 1 + held_cpus cpus

-- ---- what is still to be added

-- nothing was held or is owed of a domain
abbrev pub first_tally : Tally
first_tally = record { held = no_fraction; owed = 0 }

-- nothing is still to be added for a context
abbrev pub first_tallies : Tallies
first_tallies = record { written = 0; global = first_tally; group = first_tally }

-- in a domain, which is the global one or the context's own
abbrev pub tally_in : (domain : ℕ) (tallies : Tallies) → Tally
tally_in domain tallies = if domain == 0 then tallies.global else tallies.group

-- what is kept for a context, with this of a domain
abbrev pub with_tally : (domain : ℕ) (tally : Tally) (tallies : Tallies) → Tallies
with_tally domain tally tallies = if domain == 0 then record tallies { global = tally } else record tallies { group = tally }

-- what a flusher keeps for a context
abbrev pub tallies_of : (work : FlusherWork) (context : ℕ) → Tallies
tallies_of work context = get_or work.tallies.items context first_tallies

-- whether a context is in a domain: the global one, or its own
abbrev pub is_inside : (plan : FlusherPlan) (domain context : ℕ) → Bool
is_inside plan domain context = domain == 0 || domain == group_of plan context

-- the completed pages of a flight in a context
abbrev pub landed_in : (plan : FlusherPlan) (phase : Phase) (context : ℕ) → ℕ
landed_in plan (Flying flight) context = if context == context_of plan flight.inode then flight.landed else 0
landed_in plan other context = 0

-- completed pages that are still to be added to a domain for a context
abbrev pub owed_by : (plan : FlusherPlan) (domain context : ℕ) (work : FlusherWork) → ℕ
owed_by plan domain context work =
    if is_inside plan domain context then (tally_in domain (tallies_of work context)).owed + landed_in plan work.phase context else 0

-- for all contexts, and those to be counted into what a context wrote
abbrev pub owing : (plan : FlusherPlan) (domain : ℕ) (work : FlusherWork) → ℕ
owing plan domain work = total (length plan.contexts) (λ context. owed_by plan domain context work)

-- completed pages that are still to be counted into what a context wrote
abbrev pub owing_total : (plan : FlusherPlan) (context : ℕ) (work : FlusherWork) → ℕ
owing_total plan context work = (tallies_of work context).written + landed_in plan work.phase context

-- ---- what is seen as of a worker

-- what the flusher's CPU shows at a sight, beside what it showed before
abbrev pub shown_of : (plan : FlusherPlan) (base : Worker) (s : Sight) → Shown
shown_of plan base s = record {
  firsts = base.shown.firsts;
  held = record_in plan s;
  side = base.shown.side;
  written = base.shown.written;
  flushers = λ flusher. if flusher == plan.flusher then shown_by s.work else base.shown.flushers flusher;
}

-- what the flusher's CPU notes of shares and estimates, by its seats
abbrev pub notes_by : (base : Worker) (share : fraction.Seats) (pass : est.Seats) → Notes
notes_by base share pass = record {
  shares = λ domain. (slice_index_or share.domains domain no_seat).notes;
  kept = base.notes.kept;
  estimates = λ context. known_of context pass;
}

-- what the flusher's CPU notes at a sight
abbrev pub notes_of : (base : Worker) (s : Sight) → Notes
notes_of base s = notes_by base s.seats.share s.seats.est
