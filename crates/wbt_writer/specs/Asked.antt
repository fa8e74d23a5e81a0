-- What a check asks, and what it decides by.
use Rattle.std.specs.Prelude.{◌≡◌, ◌≢◌, ℕ, ◌≤◌, IfSome, set}
use Rattle.wbt_num.specs.Limits.{IsLawful}
use Rattle.wbt_counter.specs.History.{at_least_zero}
use Rattle.wbt_counter.specs.declared.counter.Count.{Count}
use Rattle.wbt_estimate.specs.declared.estimate.Estimate.{Estimate}
use Rattle.wbt_journal.specs.Checks.{IsInRange, cgroup_read, domain_read}
use Rattle.wbt_journal.specs.declared.entry.CheckEntry.{CheckEntry}
use Rattle.wbt_journal.specs.declared.entry.DomainLine.{DomainLine}
use Rattle.wbt_kit.specs.declared.kit.Kit.{Kit}
use Rattle.wbt_kit.specs.declared.kit.Seats.{Seats}
use Rattle.wbt_pause.specs.declared.decision.Decision.{Decision}
use Rattle.wbt_pause.specs.declared.pauses.TheConstants.{LONGEST_PAUSE}
use Rattle.wbt_pause.specs.declared.reads.Reads.{Reads}
use Rattle.wbt_pause.specs.declared.reads.Task.{Task}
use Rattle.wbt_rules.specs.Strict.{is_strict}
use Rattle.wbt_strict.specs.Decision.{decision_for}
use Rattle.wbt_trace.specs.declared.trace.Trace.{Trace}
use Rattle.wbt_grant.specs.Record.{granted}
use Rattle.wbt_grant.specs.declared.record.CpuRecord.{CpuRecord}
use Rattle.wbt_pause.specs.Claims.{MayBeGranted}
use Rattle.wbt_pause.specs.Reads.{StaysSmall}
use Rattle.wbt_pause.specs.declared.decision.Kind.{Kind}
use Rattle.wbt_pause.specs.declared.decision.Kind.TheVariants.{Wait}
use Rattle.wbt_run_steps.specs.Reads.{ReadsEstimate}
use Rattle.wbt_writer.specs.Desk.{IsProper, fractions_of, record_in}
use Rattle.wbt_writer.specs.Lines.{HasLines, LinesRead, fractions_after}
use Rattle.wbt_writer.specs.Loads.{OnTable}
use Rattle.wbt_writer.specs.declared.work.WriterWork.{WriterWork}
use Rattle.wbt_writer.specs.declared.lines.Lines.{Lines}
use Rattle.wbt_writer.specs.declared.loads.Loads.{Loads}

-- a line with lawful limits and a proper fraction
pub record IsUsable (line : DomainLine) : Type 0 where
  pub lawful : IsLawful line.limits
  pub proper : IsProper line.share

-- both lines of a check are usable
pub record AreUsable (lines : Lines) : Type 0 where
  pub global : IsUsable lines.global
  pub cgroup : IfSome lines.cgroup IsUsable

-- all that a check of a context reads, by its lines and its context's count
abbrev pub reads_for : (trace : Trace) (context : ℕ) (lines : Lines) (count : Count) → Reads
reads_for trace context lines count = record {
  global = domain_read trace context lines.global;
  cgroup = cgroup_read trace context lines.cgroup;
  wb_dirty = at_least_zero count.value;
  cpus = trace.cpus;
  cap = trace.cap;
}

-- the check of a task in a context at a moment, by what was loaded and read; in a context of a strict device it decides by the strict rule
abbrev pub check_by : (trace : Trace) (task context now : ℕ) (loads : Loads) (lines : Lines) (estimate : Estimate) (numbers : Task) → CheckEntry
check_by trace task context now loads lines estimate numbers = record {
  task = task;
  context = context;
  now = now;
  global = lines.global;
  cgroup = lines.cgroup;
  count = loads.count;
  estimate = estimate.version;
  decision = decision_for (is_strict trace context) (reads_for trace context lines loads.count) estimate numbers now;
}

-- by its loads, which stand already, a check read the rest, and decided
pub record Asked (trace : Trace) (kit : Kit) (task context now : ℕ) (numbers : Task) (loads : Loads) (check : CheckEntry) (was is : WriterWork)
    (old new : Seats) : Type 0 where
  pub lines : Lines
  pub estimate : Estimate
  pub check_is : check ≡ check_by trace task context now loads lines estimate numbers
  pub has_lines : HasLines loads lines
  pub read : LinesRead context lines (fractions_of context was) old.share new.share
  pub estimated : ReadsEstimate kit.published.firsts context estimate old.est new.est
  pub fractions : is.fractions.items ≡ set was.fractions.items context (fractions_after lines (fractions_of context was))
  pub tasks : is.tasks ≡ was.tasks
  pub waiting : is.waiting.items ≡ was.waiting.items
  pub cpu : new.cpu ≡ old.cpu
  pub queue : new.queue ≡ old.queue
  pub may_get : check.decision.kind ≢ Wait → MayBeGranted (reads_for trace context lines loads.count) check.decision
  pub pause : check.decision.pause ≤ LONGEST_PAUSE
  pub small : StaysSmall numbers check.decision.task
  pub in_range : IsInRange check estimate numbers

-- ---- what the writer gets

-- the CPU's record with pages granted to the writer, unless its decision is to wait
abbrev pub given_by : (kind : Kind) (writer left : ℕ) (r : CpuRecord) → CpuRecord
given_by Wait writer left r = r
given_by other writer left r = granted writer left r

-- the pages that are left to it, where it doesn't wait
pub record Gives (cpu writer : ℕ) (decision : Decision) (old new : Seats) : Type 0 where
  pub on : OnTable cpu old new
  pub becomes : record_in cpu new ≡ given_by decision.kind writer decision.left (record_in cpu old)
