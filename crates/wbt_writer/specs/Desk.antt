-- What a CPU's writers keep from turn to turn, and how they fit the kit that they work over.
use Rattle.std.specs.Prelude.{◌≡◌, ℕ, ◌^◌, ◌<◌, ◌≤◌, true, false, ◌==◌, if◌then◌else◌, [], length, map, get_or, slice_index_or}
use Rattle.wbt_num.specs.declared.most.TheConstants.{MOST_PAGE_STEPS}
use Rattle.wbt_flex.specs.declared.share.Fraction.{Fraction}
use Rattle.wbt_grant.specs.State.{writer_in}
use Rattle.wbt_grant.specs.declared.record.CpuRecord.{CpuRecord}
use Rattle.wbt_journal.specs.Machine.{contexts, context_domain, domains}
use Rattle.wbt_journal.specs.Side.{all_writers}
use Rattle.wbt_journal.specs.declared.entry.CpuJournal.{CpuJournal}
use Rattle.wbt_kit.specs.Kit.{AreSeatsOf}
use Rattle.wbt_kit.specs.Opening.{cpu_of as cpu_of_task, homes_of, place_of}
use Rattle.wbt_kit.specs.declared.kit.Kit.{Kit}
use Rattle.wbt_kit.specs.declared.kit.Seats.{Seats}
use Rattle.wbt_fraction.specs.Several as fraction
use Rattle.wbt_published.specs.Passes as est
use Rattle.wbt_published.specs.Passes.{known_of}
use Rattle.wbt_rules.specs.First.{first_estimates}
use Rattle.wbt_run_steps.specs.Records.{firsts_of, record_of}
use Rattle.wbt_table.specs.Layout as table
use Rattle.wbt_table.specs.Layout.{setting}
use Rattle.wbt_table.specs.Rule.{Has}
use Rattle.wbt_task.specs.History.{writer_of}
use Rattle.wbt_task.specs.declared.allowance.Due.TheVariants as due
use Rattle.wbt_trace.specs.Lawful.{IsLawful}
use Rattle.wbt_trace.specs.declared.trace.Trace.{Trace}
use Rattle.wbt_run_laws.specs.Notes.{Notes, AreKept, no_fraction}
use Rattle.wbt_run_laws.specs.Shown.{Shown, ShownFlusher}
use Rattle.wbt_run_laws.specs.Throttle.{IsThrottleOf, writer_at}
use Rattle.wbt_writer.specs.Counted.{AreTasksOf, IsFor, cpu_of, side_of, task_at, written_of}
use Rattle.wbt_writer.specs.Over.{AreOver}
use Rattle.wbt_writer.specs.declared.tasks.Tasks.{Tasks}
use Rattle.wbt_writer.specs.declared.work.Fractions.{Fractions}
use Rattle.wbt_writer.specs.declared.work.WriterWork.{WriterWork}

-- a CPU's writers as contracts see them
pub record Desk : Type 0 where
  pub trace : Trace
  pub cpu : ℕ
  pub work : WriterWork

-- ---- fractions that are kept

-- the fractions before the first read
abbrev pub no_fractions : Fractions
no_fractions = record { global = no_fraction; group = no_fraction }

-- the fractions that are kept for a context
abbrev pub fractions_of : (context : ℕ) (work : WriterWork) → Fractions
fractions_of context work = get_or work.fractions.items context no_fractions

-- in the global domain, or in that of the context's cgroup
abbrev pub fraction_in : (trace : Trace) (domain context : ℕ) (kept : Fractions) → Fraction
fraction_in trace domain context kept =
    if domain == 0 then kept.global else if domain == context_domain trace context then kept.group else no_fraction

-- the fraction that is kept of a domain for a context
abbrev pub kept_in : (trace : Trace) (work : WriterWork) (domain context : ℕ) → Fraction
kept_in trace work domain context = fraction_in trace domain context (fractions_of context work)

-- a part of a whole
abbrev pub IsProper : (fraction : Fraction) → Type 0
IsProper fraction = (1 ≤ fraction.den) × (fraction.num ≤ fraction.den) × (fraction.den < 2 ^ 40)

-- both fractions are parts of a whole
abbrev pub AreProper : (kept : Fractions) → Type 0
AreProper kept = IsProper kept.global × IsProper kept.group

-- ---- what holds between two turns

-- what a CPU's writers keep fits the trace
pub record IsWork (trace : Trace) (work : WriterWork) : Type 0 where
  pub lawful : IsLawful trace
  pub tasks : AreTasksOf trace work.tasks
  pub next : work.tasks.next ≤ length work.tasks.tasks.items
  pub fractions : length work.fractions.items ≡ contexts trace
  pub proper : (context : ℕ) → AreProper (fractions_of context work)
  pub waiting : length work.waiting.items ≡ length trace.inodes
  pub over : AreOver trace work.tasks

-- the kit is that of the trace, whose writers have their numbers, and pages their inodes
pub record Suits (trace : Trace) (kit : Kit) : Type 0 where
  pub throttle : IsThrottleOf trace (setting kit.throttle.layout)
  pub domains_are : table.domains kit.throttle.layout ≡ domains trace
  pub seats : (w : ℕ) → w < length (all_writers trace) → (setting kit.throttle.layout).seat w ≡ cpu_of_task trace (writer_at trace w).task
  pub inodes_are : length kit.throttle.layout.inodes ≡ length trace.inodes
  pub places : kit.throttle.layout.inodes ≡ map place_of trace.inodes
  pub shared_domains : length kit.shares.domains ≡ domains trace
  pub homes : kit.shares.homes ≡ homes_of trace
  pub published : length kit.published.names ≡ contexts trace
  pub firsts : kit.published.firsts ≡ first_estimates trace kit.published.moment
  pub queues : length kit.queues.sizes ≡ length trace.devices
  pub few_page_steps : kit.throttle.layout.page_steps ≤ MOST_PAGE_STEPS

-- and the tasks are those of the CPU since the kit's opening
pub record IsAtKit (desk : Desk) (kit : Kit) : Type 0 where
  pub suits : Suits desk.trace kit
  pub cpu : desk.cpu < desk.trace.cpus
  pub its : IsFor desk.trace kit.published.moment desk.cpu desk.work.tasks

-- ---- the CPU's record

-- seats at the kit that hold the CPU
pub record Fits (cpu : ℕ) (kit : Kit) (seats : Seats) : Type 0 where
  pub seats_are : AreSeatsOf kit seats
  pub held : (r : CpuRecord) × Has seats.cpu.cpus cpu r

-- the record of the CPU, as the seats hold it
abbrev pub record_in : (cpu : ℕ) (seats : Seats) → CpuRecord
record_in cpu seats = record_of cpu seats.cpu.cpus

-- the CPU owes no counter
abbrev pub OwesNothing : (cpu : ℕ) (seats : Seats) → Type 0
OwesNothing cpu seats = (record_in cpu seats).debts ≡ []

-- Each writer of the CPU whose task goes on, and of which no check is due, has in the CPU's record just the pages left that the tasks count
-- for it.
pub record HaveLefts (trace : Trace) (cpu : ℕ) (kit : Kit) (tasks : Tasks) (seats : Seats) : Type 0 where
  pub each : (w : ℕ) → w < length (all_writers trace) → (setting kit.throttle.layout).seat w ≡ cpu → (task_at tasks (writer_at trace w).task).ended ≡ false
      → (writer_of (cpu_of tasks) w).due ≡ due.No
      → (writer_in (setting kit.throttle.layout) w (record_in cpu seats).writers).left ≡ (writer_of (cpu_of tasks) w).left

-- ---- what is seen

-- what the writers keep, their seats and their log, at one moment
pub record Sight : Type 0 where
  pub work : WriterWork
  pub seats : Seats
  pub log : CpuJournal

-- a sight of its parts
abbrev pub sight : (work : WriterWork) (seats : Seats) (log : CpuJournal) → Sight
sight work seats log = record { work = work; seats = seats; log = log }

-- as of a worker, whose flushers are these
abbrev pub shown_of : (cpu : ℕ) (flushers : ℕ → ShownFlusher) (s : Sight) → Shown
shown_of cpu flushers s = record {
  held = record_in cpu s.seats;
  firsts = firsts_of s.seats;
  side = side_of s.work.tasks;
  written = written_of s.work.tasks;
  flushers = flushers;
}

-- what the writers note: of shares and estimates by their seats, and the fractions that they keep
abbrev pub notes_by : (trace : Trace) (work : WriterWork) (share : fraction.Seats) (pass : est.Seats) → Notes
notes_by trace work share pass = record {
  shares = λ domain. (slice_index_or share.domains domain fraction.no_seat).notes;
  kept = kept_in trace work;
  estimates = λ context. known_of context pass;
}

-- what the writers note at a sight
abbrev pub notes_of : (trace : Trace) (s : Sight) → Notes
notes_of trace s = notes_by trace s.work s.seats.share s.seats.est

-- ---- between two turns, and between two steps

-- the writers are at their trace, at the kit and at seats that hold their CPU
pub record AreAt (trace : Trace) (cpu : ℕ) (kit : Kit) (work : WriterWork) (seats : Seats) : Type 0 where
  pub is_work : IsWork trace work
  pub suits : Suits trace kit
  pub its : IsFor trace kit.published.moment cpu work.tasks
  pub fits : Fits cpu kit seats

-- a task of the CPU that hasn't ended
pub record IsGoing (trace : Trace) (tasks : Tasks) (task : ℕ) : Type 0 where
  pub there : task < length trace.tasks
  pub own : (task_at tasks task).own ≡ true
  pub going : (task_at tasks task).ended ≡ false

-- each fraction that is kept was read by the seats
abbrev pub HaveRead : (trace : Trace) (work : WriterWork) (seats : Seats) → Type 0
HaveRead trace work seats = AreKept (notes_by trace work seats.share seats.est)

-- What a turn needs, and gives again where it isn't cut off: the kit is the trace's, the seats hold the CPU, which owes no counter, pages
-- left are those that the tasks count, and the seats have read the fractions that are kept.
pub record IsReady (desk : Desk) (kit : Kit) (seats : Seats) : Type 0 where
  pub at_kit : IsAtKit desk kit
  pub fits : Fits desk.cpu kit seats
  pub owes_nothing : OwesNothing desk.cpu seats
  pub lefts : HaveLefts desk.trace desk.cpu kit desk.work.tasks seats
  pub have_read : HaveRead desk.trace desk.work seats
