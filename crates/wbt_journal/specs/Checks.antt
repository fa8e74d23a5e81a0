-- Checks: one stands exactly where it is due, and decides as the control law says of what it read.
use Rattle.std.specs.Prelude.{◌≡◌, ℕ, zero, suc, ◌^◌, ◌<◌, ◌≤◌, Bool, true, false, not, ◌&&◌, ◌||◌, ◌==◌, nat_le, nat_lt, if◌then◌else◌, Option, Some, None, IfSome, List, [], ◌∷◌, map}
use Rattle.std.specs.List.{list_all}
use Rattle.wbt_num.specs.Limits.{IsLawful as AreLawful}
use Rattle.wbt_num.specs.declared.limits.Limits.{Limits}
use Rattle.wbt_num.specs.declared.limits.TheConstants.{MAX_LIMIT}
use Rattle.wbt_counter.specs.History.{at_least_zero}
use Rattle.wbt_rules.specs.First.{first_estimate}
use Rattle.wbt_estimate.specs.declared.estimate.Estimate.{Estimate}
use Rattle.wbt_flex.specs.declared.share.Fraction.{Fraction}
use Rattle.wbt_pause.specs.Reads.{IsCounted, IsUsable}
use Rattle.wbt_pause.specs.declared.decision.Decision.{Decision}
use Rattle.wbt_pause.specs.declared.decision.Kind.{Kind}
use Rattle.wbt_pause.specs.declared.decision.Kind.TheVariants as kind
use Rattle.wbt_pause.specs.declared.reads.Reads.{Reads}
use Rattle.wbt_pause.specs.declared.reads.Task.{Task}
use Rattle.wbt_position.specs.declared.ratio.DomainRead.{DomainRead}
use Rattle.wbt_rules.specs.Read.{part_read}
use Rattle.wbt_rules.specs.Strict.{is_strict}
use Rattle.wbt_rules.specs.Things.{context_at, device_at}
use Rattle.wbt_strict.specs.Decision.{decision_for, exceeded_for}
use Rattle.wbt_task.specs.History.{writer_of}
use Rattle.wbt_task.specs.declared.allowance.Due.{Due}
use Rattle.wbt_task.specs.declared.allowance.Due.TheVariants as due
use Rattle.wbt_task.specs.declared.history.Writer.{Writer}
use Rattle.wbt_trace.specs.Sofar.{least_shares}
use Rattle.wbt_trace.specs.declared.trace.Trace.{Trace}
use Rattle.wbt_journal.specs.declared.entry.CheckEntry.{CheckEntry}
use Rattle.wbt_journal.specs.declared.entry.CpuJournal.{CpuJournal}
use Rattle.wbt_journal.specs.declared.entry.DomainLine.{DomainLine}
use Rattle.wbt_journal.specs.declared.journal.Journal.{Journal}
use Rattle.wbt_journal.specs.declared.journal.Ending.{Ending}
use Rattle.wbt_journal.specs.declared.journal.Ending.TheVariants as ending
use Rattle.wbt_journal.specs.Each.{Each}
use Rattle.wbt_journal.specs.Estimates.{estimates_of, decision_at}
use Rattle.wbt_journal.specs.Effects.{Effect, Write, effect, of_part}
use Rattle.wbt_journal.specs.Items.{Item, begins, tells}
use Rattle.wbt_journal.specs.Machine.{context_domain, page_context, rests_last}
use Rattle.wbt_journal.specs.Side.{Event, item, ends, Side, is_not_due, is_none_due, is_own_task, number_of, numbers_of, task_of}
use Rattle.wbt_journal.specs.Told.{Told, marked_as}
use Rattle.wbt_journal.specs.Walk.{unless, first_of}

-- ---- what a check reads

-- a context's part of a domain's threshold by the fraction that was read, and the reading of the domain's count
abbrev pub domain_read : (trace : Trace) (context : ℕ) (read : DomainLine) → DomainRead
domain_read trace context read =
    part_read (device_at trace (context_at trace context).device) (least_shares trace.devices) read.limits read.share (at_least_zero read.count.value)

-- the reading of a context's cgroup, if its check has one
abbrev pub cgroup_read : (trace : Trace) (context : ℕ) (which : Option DomainLine) → Option DomainRead
cgroup_read trace context None = None
cgroup_read trace context (Some read) = Some (domain_read trace context read)

-- all that a check reads: its domains, its context's count of pages, and the trace's CPUs and cap
abbrev pub reads_by : (trace : Trace) (check : CheckEntry) → Reads
reads_by trace check = record {
  global = domain_read trace check.context check.global;
  cgroup = cgroup_read trace check.context check.cgroup;
  wb_dirty = at_least_zero check.count.value;
  cpus = trace.cpus;
  cap = trace.cap;
}

-- the mark that no line tells, by what the lines tell
unfoldable pub mark_of : (trace : Trace) (check : CheckEntry) → Bool
mark_of trace check = exceeded_for (is_strict trace check.context) check.decision.kind (reads_by trace check)

-- ---- what it decides

-- the estimate of a version; none where the journal hasn't it
abbrev pub nth_estimate : (version : ℕ) (estimates : List Estimate) → Option Estimate
nth_estimate version [] = None
nth_estimate zero (estimate ∷ more) = Some estimate
nth_estimate (suc version) (estimate ∷ more) = nth_estimate version more

-- the estimate that a check names: version 0 is the context's first, at the opening
abbrev pub named_estimate : (trace : Trace) (opened : ℕ) (all : List Told) (check : CheckEntry) → Option Estimate
named_estimate trace opened all check = nth_estimate check.estimate (first_estimate trace check.context opened ∷ estimates_of check.context all)

-- what the CPU counts for the writer whose check it is
abbrev pub task_numbers : (trace : Trace) (s : Side) (check : CheckEntry) → Task
task_numbers trace s check = (writer_of s.cpu (number_of trace check.task check.context)).task

-- the strict law's decision in a context of a strict device, and that of all others in any other
abbrev pub asked_by : (trace : Trace) (s : Side) (check : CheckEntry) (estimate : Estimate) → Decision
asked_by trace s check estimate =
    decision_for (is_strict trace check.context) (reads_by trace check) estimate (task_numbers trace s check) check.now

-- ---- what the control law is a law of

-- a fraction of at most one, of fewer than 2 ^ 41 events
pub record IsPart (share : Fraction) : Type 0 where
  pub some : 1 ≤ share.den
  pub within : share.num ≤ share.den
  pub few : share.den < 2 ^ 41

-- decides whether a fraction is at most one, of 1 to fewer than 2 ^ 41 events
abbrev pub is_part : (share : Fraction) → Bool
is_part share = nat_le 1 share.den && (nat_le share.num share.den && nat_lt share.den (2 ^ 41))

-- decides whether background threshold, threshold and hard limit ascend, up to the greatest limit
abbrev pub are_lawful : (limits : Limits) → Bool
are_lawful limits = nat_le limits.bg limits.thresh && (nat_le limits.thresh limits.hard && nat_le limits.hard MAX_LIMIT)

-- what is read of a domain: lawful limits, and a context's part of them
pub record IsRead (read : DomainLine) : Type 0 where
  pub limits : AreLawful read.limits
  pub share : IsPart read.share

-- decides whether a reading of a domain has lawful limits and a lawful part of them
abbrev pub is_read : (read : DomainLine) → Bool
is_read read = are_lawful read.limits && is_part read.share

-- an estimate whose rates are at least 1 and below 2 ^ 44
pub record IsRate (estimate : Estimate) : Type 0 where
  pub usable : IsUsable estimate
  pub ratelimit : estimate.ratelimit < 2 ^ 44

-- decides whether an estimate's rates are at least 1 and below 2 ^ 44 pages a second
abbrev pub is_rate : (estimate : Estimate) → Bool
is_rate estimate =
    nat_le 1 estimate.avg && (nat_lt estimate.avg (2 ^ 44) && (nat_le 1 estimate.ratelimit && nat_lt estimate.ratelimit (2 ^ 44)))

-- decides whether a task's counts of dirtied pages are below 2 ^ 52
abbrev pub is_counted : (task : Task) → Bool
is_counted task = nat_lt task.nr_dirtied (2 ^ 52) && nat_lt task.nr_dirtied_pause (2 ^ 52)

-- the numbers by which a check decides are in the ranges of the control law: lawful limits and parts, fewer than 2 ^ 33 pages of the context,
-- an estimate's rates, a task's counts below 2 ^ 52, and a moment before 2 ^ 62
pub record IsInRange (check : CheckEntry) (estimate : Estimate) (task : Task) : Type 0 where
  pub global : IsRead check.global
  pub cgroup : IfSome check.cgroup IsRead
  pub pages : at_least_zero check.count.value < 2 ^ 33
  pub rate : IsRate estimate
  pub counted : IsCounted task
  pub moment : check.now < 2 ^ 62

-- decides whether a check's numbers are in the ranges of the control law
abbrev pub is_in_range : (check : CheckEntry) (estimate : Estimate) (task : Task) → Bool
is_in_range check estimate task =
    is_read check.global && (of_part true is_read check.cgroup && (nat_lt (at_least_zero check.count.value) (2 ^ 33)
    && (is_rate estimate && (is_counted task && nat_lt check.now (2 ^ 62)))))

-- a check decides on numbers in range, as the law asks of them
pub record DecidesAs (trace : Trace) (check : CheckEntry) (estimate : Estimate) (task : Task) : Type 0 where
  pub in_range : IsInRange check estimate task
  pub asked : check.decision ≡ decision_for (is_strict trace check.context) (reads_by trace check) estimate task check.now

-- by the estimate that it names; one that names none doesn't
abbrev pub DecidesBy : (trace : Trace) (s : Side) (check : CheckEntry) (which : Option Estimate) → Type 0
DecidesBy trace s check None = ⊥
DecidesBy trace s check (Some estimate) = DecidesAs trace check estimate (task_numbers trace s check)

-- whether two kinds of decisions are equal
abbrev pub same_kind : (a b : Kind) → Bool
same_kind kind.Free kind.Free = true
same_kind kind.Go kind.Go = true
same_kind kind.Exempt kind.Exempt = true
same_kind kind.Wait kind.Wait = true
same_kind a b = false

-- whether two marks are equal
abbrev pub same_bool : (test b : Bool) → Bool
same_bool true b = b
same_bool false b = not b

-- whether two tasks have equal counts
abbrev pub same_task : (a b : Task) → Bool
same_task a b = a.nr_dirtied == b.nr_dirtied && (a.nr_dirtied_pause == b.nr_dirtied_pause && a.paused_when == b.paused_when)

-- whether two decisions are equal in each part
abbrev pub same_decision : (a b : Decision) → Bool
same_decision a b =
    same_kind a.kind b.kind && (a.pause == b.pause && (a.left == b.left && (same_task a.task b.task && same_bool a.exceeded b.exceeded)))

-- decides whether a check decides on numbers in range, as the law asks, by the estimate that it names
abbrev pub decides_by : (trace : Trace) (s : Side) (check : CheckEntry) (which : Option Estimate) → Bool
decides_by trace s check None = false
decides_by trace s check (Some estimate) = is_in_range check estimate (task_numbers trace s check) && same_decision check.decision (asked_by trace s check estimate)

-- a check of the CPU's own task decides as the law asks of what it read; one of another CPU's task isn't judged
abbrev pub Decides : (trace : Trace) (opened : ℕ) (all : List Told) (s : Side) (item : Item) → Type 0
Decides trace opened all s (begins cpu) = Unit {0}
Decides trace opened all s (tells cpu entry) =
    IfSome (effect entry).check (λ (check : CheckEntry). is_own_task trace cpu check.task ≡ true → DecidesBy trace s check (named_estimate trace opened all check))

-- the fault of a check that doesn't decide as the law asks, on its decision's line
abbrev pub asked_fault : (trace : Trace) (opened : ℕ) (all : List Told) (s : Side) (cpu : ℕ) (check : CheckEntry) → Option ℕ
asked_fault trace opened all s cpu check =
    unless (not (is_own_task trace cpu check.task) || decides_by trace s check (named_estimate trace opened all check)) (decision_at check)

-- the fault of an item whose check doesn't decide as the law asks
abbrev pub decision_fault : (trace : Trace) (opened : ℕ) (all : List Told) (s : Side) (item : Item) → Option ℕ
decision_fault trace opened all s (begins cpu) = None
decision_fault trace opened all s (tells cpu entry) = of_part None (asked_fault trace opened all s cpu) (effect entry).check

-- ---- where it stands

-- the cgroup that a check read, if it read one
abbrev pub domains_read : (which : Option DomainLine) → List ℕ
domains_read None = []
domains_read (Some read) = read.domain ∷ []

-- the cgroup that a check of a context reads
abbrev pub domains_asked : (trace : Trace) (context : ℕ) → List ℕ
domains_asked trace context = if context_domain trace context == 0 then [] else context_domain trace context ∷ []

-- whether two lists of numbers are equal
abbrev pub same_numbers : (ms ns : List ℕ) → Bool
same_numbers [] [] = true
same_numbers (m ∷ ms) (n ∷ ns) = m == n && same_numbers ms ns
same_numbers ms ns = false

-- whether a check is due
abbrev pub is_due : (due : Due) → Bool
is_due due.Check = true
is_due due.No = false

-- whether a task's writer of a context has a check that is due
abbrev pub due_of : (trace : Trace) (s : Side) (task context : ℕ) → Due
due_of trace s task context = (writer_of s.cpu (number_of trace task context)).due

-- a check reads the global domain and then its context's cgroup, if it has one, and it is due
pub record MayCheck (trace : Trace) (s : Side) (check : CheckEntry) : Type 0 where
  pub is_due : due_of trace s check.task check.context ≡ due.Check
  pub global : check.global.domain ≡ 0
  pub cgroup : domains_read check.cgroup ≡ domains_asked trace check.context

-- decides whether a check is due and reads the domains of its context
abbrev pub may_check : (trace : Trace) (s : Side) (check : CheckEntry) → Bool
may_check trace s check =
    is_due (due_of trace s check.task check.context) && (check.global.domain == 0
    && same_numbers (domains_read check.cgroup) (domains_asked trace check.context))

-- no writer of the task has a check that is due
abbrev pub IsQuiet : (trace : Trace) (s : Side) (task : ℕ) → Type 0
IsQuiet trace s task = Each (λ number. (writer_of s.cpu number).due ≡ due.No) (numbers_of trace task)

-- a task that rests last may be taken as ended once it has written all and no check is due
pub record MayEnd (trace : Trace) (s : Side) (task : ℕ) : Type 0 where
  pub rests : rests_last trace task ≡ true
  pub wrote_all : (task_of s task).todo ≡ 0
  pub quiet : IsQuiet trace s task
  pub not_ended : (task_of s task).has_ended ≡ false

-- whether a page has a context: then the trace has the page
abbrev pub has_page : (which : Option ℕ) → Bool
has_page None = false
has_page (Some context) = true

-- whether an item of a task is judged: it stands in the task's part, and its page is there
abbrev pub is_judged : (trace : Trace) (cpu task page : ℕ) → Bool
is_judged trace cpu task page = is_own_task trace cpu task && has_page (page_context trace page)

-- a task writes where no check is due, and is checked where one is
pub record StandsTold (trace : Trace) (s : Side) (cpu : ℕ) (did : Effect) : Type 0 where
  pub write : IfSome did.write (λ (write : Write). is_judged trace cpu write.task write.page ≡ true → IsQuiet trace s write.task)
  pub check : IfSome did.check (λ (check : CheckEntry). is_own_task trace cpu check.task ≡ true → MayCheck trace s check)

-- an item's write and check stand where they may
abbrev pub StandsItem : (trace : Trace) (s : Side) (item : Item) → Type 0
StandsItem trace s (begins cpu) = Unit {0}
StandsItem trace s (tells cpu entry) = StandsTold trace s cpu (effect entry)

-- an event stands where it may: an item's write and check, or the end of a task that rests last
abbrev pub Stands : (trace : Trace) (s : Side) (event : Event) → Type 0
Stands trace s (item i) = StandsItem trace s i
Stands trace s (ends task) = MayEnd trace s task

-- a write where a check is due
abbrev pub due_fault : (trace : Trace) (s : Side) (cpu : ℕ) (write : Write) → Option ℕ
due_fault trace s cpu write = unless (not (is_judged trace cpu write.task write.page) || is_none_due trace s write.task) 0

-- a check that isn't due, or reads other domains
abbrev pub undue_fault : (trace : Trace) (s : Side) (cpu : ℕ) (check : CheckEntry) → Option ℕ
undue_fault trace s cpu check = unless (not (is_own_task trace cpu check.task) || may_check trace s check) (decision_at check)

-- the fault of an item whose write or check stands where it may not
abbrev pub stands_fault : (trace : Trace) (s : Side) (item : Item) → Option ℕ
stands_fault trace s (begins cpu) = None
stands_fault trace s (tells cpu entry) =
    first_of (of_part None (due_fault trace s cpu) (effect entry).write) (of_part None (undue_fault trace s cpu) (effect entry).check)

-- at the end of a part that wasn't cut off no check is still due
abbrev pub NoneDue : (ending : Ending) (s : Side) → Type 0
NoneDue ending.Done s = Each (λ (writer : Writer). writer.due ≡ due.No) s.cpu.writers
NoneDue other s = Unit {0}

-- whether a writer has no check that is due
abbrev pub is_writer_quiet : (writer : Writer) → Bool
is_writer_quiet writer = is_not_due writer.due

-- decides whether no check is still due at the end of a part that wasn't cut off
abbrev pub none_due : (ending : Ending) (s : Side) → Bool
none_due ending.Done s = list_all is_writer_quiet s.cpu.writers
none_due other s = true

-- ---- marks of a journal that was read from its text

-- a check with the mark that its line calls for
abbrev pub with_mark : (trace : Trace) (check : CheckEntry) → CheckEntry
with_mark trace check = marked_as (mark_of trace check) check

-- a CPU's part, each of its checks with the mark that its lines call for
abbrev pub part_with_marks : (trace : Trace) (part : CpuJournal) → CpuJournal
part_with_marks trace part = record { entries = part.entries; checks = map (with_mark trace) part.checks; estimates = part.estimates }

-- the journal with each mark that its lines call for
abbrev pub with_marks : (trace : Trace) (j : Journal) → Journal
with_marks trace j = record {
  timer = j.timer;
  cpus = map (part_with_marks trace) j.cpus;
  steps = j.steps;
  bases = j.bases;
  homes = j.homes;
  left = j.left;
  strict = j.strict;
  ending = j.ending;
}
