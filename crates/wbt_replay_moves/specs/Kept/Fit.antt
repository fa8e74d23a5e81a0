-- Where a machine may go on: what its moves name is there, and its numbers fit.
use Rattle.std.specs.Prelude.{◌≡◌, ℕ, ◌+◌, ◌^◌, ◌<◌, ◌≤◌, ℤ, unsigned_abs, List, [], ◌∷◌, length, get_or, sum_by, All, Option, Some, None, IsSome, IfSome}
use Rattle.wbt_num.specs.Limits.{IsLawful}
use Rattle.wbt_num.specs.declared.most.TheConstants.{MOST_CPUS}
use Rattle.wbt_counter.specs.declared.counter.Count.{Count}
use Rattle.wbt_counter.specs.declared.counter.Counter.{Counter}
use Rattle.wbt_counter.specs.declared.counter.Counter.TheVariants.{Domain, Context}
use Rattle.wbt_estimate.specs.Estimate.{IsSound}
use Rattle.wbt_expiry.specs.Kept.{reach}
use Rattle.wbt_expiry.specs.Waiting.{Waiting}
use Rattle.wbt_flex.specs.declared.half.Half.{Half}
use Rattle.wbt_flex.specs.declared.share.Fraction.{Fraction}
use Rattle.wbt_journal.specs.declared.entry.DomainLine.{DomainLine}
use Rattle.wbt_pause.specs.Reads.{IsCounted}
use Rattle.wbt_trace.specs.Sofar.{least_shares}
use Rattle.wbt_trace.specs.declared.ranges.TheConstants.{MOST_PERCENT}
use Rattle.wbt_trace.specs.declared.trace.Trace.{Trace}
use Rattle.wbt_replay_moves.specs.Definition.Check.{writer_in}
use Rattle.wbt_journal.specs.Machine.{batch_of}
use Rattle.wbt_replay_moves.specs.Definition.Cpu.{own_of}
use Rattle.wbt_replay_moves.specs.Definition.Writer.{pause_in}
use Rattle.wbt_replay_moves.specs.Definition.State.{State, no_held, cpu_of, task_of, flusher_of, waiting_of, queue_of, domain_of, writeback_of, count_of}
use Rattle.wbt_rules.specs.Age.{expire_ticks}
use Rattle.wbt_rules.specs.declared.scan.Scan.{Scan}
use Rattle.wbt_rules.specs.Places.{page_of}
use Rattle.wbt_rules.specs.Things.{context_of, context_at, group_of, device_of, device_at, flusher_device, rate_of}
use Rattle.wbt_rules.specs.Thresholds.{DomainFits}
use Rattle.wbt_replay_moves.specs.declared.state.Cpu.{Cpu}
use Rattle.wbt_replay_moves.specs.declared.state.Domain.{Domain as DomainState}
use Rattle.wbt_replay_moves.specs.declared.state.ReplayPhase.{ReplayPhase}
use Rattle.wbt_replay_moves.specs.declared.state.ReplayPhase.TheVariants as phase
use Rattle.wbt_replay_moves.specs.declared.state.ReplayTask.{ReplayTask}
use Rattle.wbt_replay_moves.specs.declared.state.Timer.{Timer}
use Rattle.wbt_replay_moves.specs.declared.state.ReplayTurn.{ReplayTurn}
use Rattle.wbt_replay_moves.specs.declared.state.Whose.{Whose}
use Rattle.wbt_replay_moves.specs.declared.state.Whose.TheVariants as whose
use Rattle.wbt_replay_moves.specs.declared.state.ReplayWork.{ReplayWork}
use Rattle.wbt_replay_moves.specs.declared.state.ReplayWork.TheVariants as work
use Rattle.wbt_replay_moves.specs.declared.todo.Silent.{Silent}
use Rattle.wbt_replay_moves.specs.declared.todo.Silent.TheVariants as silent
use Rattle.wbt_replay_moves.specs.declared.todo.Step.{Step}
use Rattle.wbt_replay_moves.specs.declared.todo.Step.TheVariants as step
use Rattle.wbt_replay_moves.specs.declared.todo.TimerSilent.{TimerSilent}
use Rattle.wbt_replay_moves.specs.declared.todo.TimerSilent.TheVariants as timer_silent
use Rattle.wbt_replay_moves.specs.declared.todo.TimerStep.{TimerStep}
use Rattle.wbt_replay_moves.specs.declared.todo.TimerStep.TheVariants as timer_step

-- ---- counters

-- from 1 to `MOST_CPUS` CPUs
abbrev pub IsCpus : (trace : Trace) → Type 0
IsCpus trace = (1 ≤ trace.cpus) × (trace.cpus ≤ MOST_CPUS)

-- The CPU has a number of its own for the counter.
abbrev pub HasOwn : (counter : Counter) (c : Cpu) → Type 0
HasOwn (Domain domain) c = domain < length c.own_domains
HasOwn (Context context) c = context < length c.own_contexts

-- The counter has a shared word.
abbrev pub HasCount : (counter : Counter) (s : State) → Type 0
HasCount (Domain domain) s = domain < length s.domains
HasCount (Context context) s = context < length s.contexts

-- an own number that isn't full
abbrev pub IsOwn : (batch : ℕ) (n : ℤ) → Type 0
IsOwn batch n = unsigned_abs n < batch

-- A fold of the own number finds room in the shared count.
pub record CanFold (n : ℤ) (count : Count) : Type 0 where
  pub version : count.version < 2 ^ 62
  pub own : unsigned_abs n ≤ 2 ^ 31
  pub value : unsigned_abs count.value ≤ 2 ^ 32

-- ---- things

-- The inode is there, with its context and its device, of so many marks and queues.
pub record HasInode (trace : Trace) (inode marks queues : ℕ) : Type 0 where
  pub there : inode < length trace.inodes
  pub mark : inode < marks
  pub context : context_of trace inode < length trace.contexts
  pub queue : device_of trace inode < queues

-- The context is there, with its device and its cgroup, of so many contexts and domains.
pub record HasContext (trace : Trace) (context contexts domains : ℕ) : Type 0 where
  pub there : context < length trace.contexts
  pub kept : context < contexts
  pub device : (context_at trace context).device < length trace.devices
  pub least_share : (device_at trace (context_at trace context).device).min ≤ (device_at trace (context_at trace context).device).max
  pub share : (device_at trace (context_at trace context).device).max ≤ MOST_PERCENT
  pub group : group_of trace context < domains
  pub global : 0 < domains
  pub least : least_shares trace.devices ≤ MOST_PERCENT

-- The flusher is there, with its device, of so many flushers and queues.
pub record HasFlusher (trace : Trace) (flusher flushers queues : ℕ) : Type 0 where
  pub there : flusher < flushers
  pub line : flusher < length trace.flushers
  pub device : flusher_device trace flusher < length trace.devices
  pub queue : flusher_device trace flusher < queues
  pub rate : 0 < rate_of trace (flusher_device trace flusher)

-- ---- fractions and reads

-- a part that isn't ahead of its domain, both with few events
pub record IsPart (whole part : Half) : Type 0 where
  pub period : part.period ≤ whole.period
  pub few : part.events < 2 ^ 40
  pub few_in_all : whole.events < 2 ^ 40

-- a fraction of at most one, of fewer than 2 ^ 41 events
pub record IsFraction (f : Fraction) : Type 0 where
  pub num : f.num ≤ f.den
  pub den : 1 ≤ f.den
  pub few : f.den < 2 ^ 41

-- what is read of a domain has lawful limits and a fraction in range
pub record IsLine (line : DomainLine) : Type 0 where
  pub limits : IsLawful line.limits
  pub share : IsFraction line.share

-- ---- what a turn has loaded

-- Its limits are lawful, the count of its context leaves room to be added, and its moment leaves room for rests.
pub record TurnFits (turn : ReplayTurn) : Type 0 where
  pub global : IsLawful turn.global.limits
  pub cgroup : IsLawful turn.cgroup.limits
  pub count : unsigned_abs turn.context.value ≤ 2 ^ 32
  pub began : turn.began < 2 ^ 62

-- A turn that reads of a context finds it, with a sound estimate and parts that aren't ahead.
pub record ReadFits (trace : Trace) (context : ℕ) (turn : ReplayTurn) (s : State) : Type 0 where
  pub here : HasContext trace context (length s.contexts) (length s.domains)
  pub estimate : IsSound (writeback_of context s).estimate
  pub part : IsPart (domain_of 0 s).events (writeback_of context s).part
  pub cgroup_part : IsPart (domain_of (group_of trace context) s).events (writeback_of context s).cgroup_part
  pub loads : TurnFits turn

-- A check of a task in a context finds its writer, whose numbers fit.
pub record CheckFits (trace : Trace) (task context : ℕ) (turn : ReplayTurn) (s : State) : Type 0 where
  pub there : task < length s.tasks
  pub writer : context < length (task_of task s).writers
  pub counted : IsCounted (writer_in context (task_of task s)).task
  pub reads : ReadFits trace context turn s
  pub cpus : IsCpus trace
  pub cap : 1 ≤ trace.cap
  pub moment : s.now < 2 ^ 62

-- the check of the turn's task fits
abbrev pub DecideFits : (trace : Trace) (s : State) (turn : ReplayTurn) (whose : Whose) → Type 0
DecideFits trace s turn (whose.Task task) = CheckFits trace task (task_of task s).context turn s
DecideFits trace s turn (whose.Flusher flusher) = Unit {0}

-- An update of a context's estimate can measure what was written.
pub record EstimateFits (trace : Trace) (context : ℕ) (turn : ReplayTurn) (s : State) : Type 0 where
  pub reads : ReadFits trace context turn s
  pub few : (writeback_of context s).written ≤ 2 ^ 39

-- The CPU holds lawful limits of the domain.
pub record HoldsLimits (domain : ℕ) (c : Cpu) : Type 0 where
  pub there : domain < length c.held
  pub lawful : IsLawful (get_or c.held domain no_held).limits

-- A context that is weighed is there, and the CPU holds limits of its domains.
pub record WeighFits (trace : Trace) (cpu context : ℕ) (s : State) : Type 0 where
  pub reads : ReadFits trace context (cpu_of cpu s).turn s
  pub global : HoldsLimits 0 (cpu_of cpu s)
  pub cgroup : HoldsLimits (group_of trace context) (cpu_of cpu s)

-- ---- a task's next page

-- the first page of a write is there, and its inode's context
pub record PageFits (trace : Trace) (inode page pages all : ℕ) : Type 0 where
  pub some : 1 ≤ pages
  pub there : inode < length trace.inodes
  pub context : context_of trace inode < length trace.contexts
  pub inside : page < all
  pub next : page + 1 < 2 ^ 32

-- the numbers of a writer and of its CPU leave room for a page more
pub record CountFits (context : ℕ) (t : ReplayTask) (c : Cpu) : Type 0 where
  pub there : context < length t.writers
  pub dirtied : (writer_in context t).task.nr_dirtied < 2 ^ 52
  pub since : c.local.since_check < 2 ^ 52

-- the first of what a task still has to do
abbrev pub WriteFits : (trace : Trace) (all : ℕ) (t : ReplayTask) (c : Cpu) (works : List ReplayWork) → Type 0
WriteFits trace all t c [] = Unit {0}
WriteFits trace all t c (work.Rest ticks ∷ more) = Unit {0}
WriteFits trace all t c (work.Write inode page pages ∷ more) =
    PageFits trace inode page pages all × CountFits (context_of trace inode) t c × (t.since + 1 < 2 ^ 32)

-- a rest that the task's line asks for before its next page, and one that it has next
abbrev pub PauseFits : (now : ℕ) (pause : Option ℕ) → Type 0
PauseFits now pause = IfSome pause (λ ticks. now + ticks < 2 ^ 64)

-- the rest that a task begins next ends before the moment 2 ^ 64
abbrev pub RestFits : (now : ℕ) (pause : Option ℕ) (works : List ReplayWork) → Type 0
RestFits now pause [] = Unit {0}
RestFits now pause (work.Rest ticks ∷ more) = now + ticks < 2 ^ 64
RestFits now pause (work.Write inode page pages ∷ more) = PauseFits now pause

-- the turn's task is there, and its first page can be written and counted
abbrev pub DirtyFits : (trace : Trace) (cpu : ℕ) (s : State) (whose : Whose) → Type 0
DirtyFits trace cpu s (whose.Task task) =
    (task < length s.tasks) × WriteFits trace s.pages (task_of task s) (cpu_of cpu s) (task_of task s).works
DirtyFits trace cpu s (whose.Flusher flusher) = Unit {0}

-- ---- the end of a task

-- The task has a writer for each context; where it ends, its pages find room among the CPU's leaks.
pub record TaskEnds (cpu task : ℕ) (s : State) : Type 0 where
  pub there : task < length s.tasks
  pub contexts : length (task_of task s).writers ≡ length s.contexts
  pub few : length s.contexts < 2 ^ 32
  pub running : 1 ≤ s.running
  pub leaks : (cpu_of cpu s).local.leaks + sum_by (λ w. w.task.nr_dirtied) (task_of task s).writers < 2 ^ 52

-- the turn's task is there, and can end
abbrev pub EndFits : (cpu : ℕ) (s : State) (whose : Whose) → Type 0
EndFits cpu s (whose.Task task) = TaskEnds cpu task s
EndFits cpu s (whose.Flusher flusher) = Unit {0}

-- ---- flushers

-- Each estimate's moment leaves room for the ticks after which it is updated.
abbrev pub EstimatesFit : (s : State) → Type 0
EstimatesFit s = (k : ℕ) → k < length s.contexts → (writeback_of k s).estimate.at < 2 ^ 62

-- The inode that was taken is there, with a place among the flusher's, and so are the flusher and its device.
abbrev pub TakenFits : (trace : Trace) (flusher : ℕ) (s : State) (phase : ReplayPhase) → Type 0
TakenFits trace flusher s (phase.Taken inode) =
    HasInode trace inode (length s.marks) (length s.queues) × (context_of trace inode < length s.contexts)
    × HasFlusher trace flusher (length s.flushers) (length s.queues) × (inode < length (flusher_of flusher s).places)
TakenFits trace flusher s other = Unit {0}

-- An inode that a flusher may notice is there, with its context, below the wheel's number of inodes, and is due within its reach.
pub record NoticeFits (trace : Trace) (inodes inode : ℕ) : Type 0 where
  pub there : inode < length trace.inodes
  pub context : context_of trace inode < length trace.contexts
  pub below : inode < inodes
  pub soon : expire_ticks trace (context_of trace inode) ≤ reach

-- Each inode of the queue may be noticed by a flusher that has a wheel.
abbrev pub QueueFits : (trace : Trace) (queue : List ℕ) (wheel : Option Waiting) → Type 0
QueueFits trace queue None = Unit {0}
QueueFits trace queue (Some w) = All (NoticeFits trace w.inodes) queue

-- what the test of a flusher needs
pub record TestFits (trace : Trace) (flusher : ℕ) (s : State) : Type 0 where
  pub here : HasFlusher trace flusher (length s.flushers) (length s.queues)
  pub queue : QueueFits trace (queue_of (flusher_device trace flusher) s) (flusher_of flusher s).wheel

-- A flusher that notices inodes at a moment has a wheel, which was told the moment, and may notice each inode of its queue.
pub record NoticesFit (trace : Trace) (flusher since : ℕ) (s : State) : Type 0 where
  pub here : HasFlusher trace flusher (length s.flushers) (length s.queues)
  pub wheel : IsSome (flusher_of flusher s).wheel
  pub told : since ≤ (waiting_of flusher s).told
  pub early : since < 2 ^ 62
  pub queue : All (NoticeFits trace (waiting_of flusher s).inodes) (queue_of (flusher_device trace flusher) s)

-- The scan has a place within its inode, and the inode one among the flusher's.
pub record ScanFits (trace : Trace) (flusher : ℕ) (scan : Scan) (s : State) : Type 0 where
  pub here : HasFlusher trace flusher (length s.flushers) (length s.queues)
  pub there : scan.inode < length trace.inodes
  pub place : scan.inode < length (flusher_of flusher s).places
  pub start : scan.start < scan.pages
  pub passed : scan.passed ≤ scan.pages
  pub batch : length (flusher_of flusher s).batch < 2 ^ 32
  pub moment : s.now ≤ 2 ^ 63

-- the flusher's scan fits, where it scans
abbrev pub ScanningFits : (trace : Trace) (flusher : ℕ) (s : State) (phase : ReplayPhase) → Type 0
ScanningFits trace flusher s (phase.Scanning scan) = ScanFits trace flusher scan s
ScanningFits trace flusher s other = Unit {0}

-- The scan comes to a page next that is there, of so many.
pub record ComesTo (scan : Scan) (all : ℕ) : Type 0 where
  pub start : scan.start < scan.pages
  pub passed : scan.passed < scan.pages
  pub fits : scan.first + scan.pages ≤ 2 ^ 32
  pub page : page_of scan < all

-- the scan comes to a page that is there, where the flusher scans
abbrev pub LookFits : (s : State) (phase : ReplayPhase) → Type 0
LookFits s (phase.Scanning scan) = ComesTo scan s.pages
LookFits s other = Unit {0}

-- The flight's inode and context are there, and its numbers find room.
pub record FlightFits (trace : Trace) (flusher inode pages : ℕ) (s : State) : Type 0 where
  pub there : inode < length trace.inodes
  pub context : HasContext trace (context_of trace inode) (length s.contexts) (length s.domains)
  pub batch : All (λ p. p < s.pages) (flusher_of flusher s).batch
  pub written : (writeback_of (context_of trace inode) s).written + pages < 2 ^ 62
  pub few : pages < 2 ^ 39
  pub part : IsPart (domain_of 0 s).events (writeback_of (context_of trace inode) s).part
  pub cgroup_part : IsPart (domain_of (group_of trace (context_of trace inode)) s).events (writeback_of (context_of trace inode) s).cgroup_part

-- the flusher's flight fits, where it flies
abbrev pub FlyingFits : (trace : Trace) (flusher : ℕ) (s : State) (phase : ReplayPhase) → Type 0
FlyingFits trace flusher s (phase.Flying inode pages until) = FlightFits trace flusher inode pages s
FlyingFits trace flusher s other = Unit {0}

-- A flusher's turn: its own flusher is there, and what it is at fits.
abbrev pub OfFlusher : (Fits : (flusher : ℕ) (phase : ReplayPhase) → Type 0) (s : State) (whose : Whose) → Type 0
OfFlusher Fits s (whose.Task task) = Unit {0}
OfFlusher Fits s (whose.Flusher flusher) = (flusher < length s.flushers) × Fits flusher (flusher_of flusher s).phase

-- ---- the timer

-- The timer's moments leave room for its next turn and the next period.
pub record TimerFits (timer : Timer) : Type 0 where
  pub began : timer.began < 2 ^ 62
  pub period : timer.period < 2 ^ 62

-- The sequence has a next one.
abbrev pub HasNext : (d : DomainState) → Type 0
HasNext d = d.sequence < 2 ^ 62

-- ---- items

-- what an addition of an event needs
pub record AddFits (trace : Trace) (cpu : ℕ) (counter : Counter) (change : ℤ) (s : State) : Type 0 where
  pub cpus : IsCpus trace
  pub own : HasOwn counter (cpu_of cpu s)
  pub below : IsOwn (batch_of trace counter) (own_of counter (cpu_of cpu s))
  pub one : unsigned_abs change ≡ 1

-- what a fold needs
pub record FoldFits (cpu : ℕ) (counter : Counter) (s : State) : Type 0 where
  pub own : HasOwn counter (cpu_of cpu s)
  pub count : HasCount counter s
  pub room : CanFold (own_of counter (cpu_of cpu s)) (count_of counter s)

-- what the turn's owner is
abbrev pub whose_of : (cpu : ℕ) (s : State) → Whose
whose_of cpu s = (cpu_of cpu s).turn.whose

-- The flusher of the turn is there, with its device.
abbrev pub OwnsFlusher : (trace : Trace) (s : State) (whose : Whose) → Type 0
OwnsFlusher trace s whose = OfFlusher (λ flusher phase. HasFlusher trace flusher (length s.flushers) (length s.queues)) s whose

-- Where a step of a CPU's turn may be made.
unfoldable pub CanStep : (trace : Trace) (cpu : ℕ) (item : Step) (s : State) → Type 0
CanStep trace cpu step.Dirty s = DirtyFits trace cpu s (whose_of cpu s)
CanStep trace cpu (step.Add counter change) s = AddFits trace cpu counter change s
CanStep trace cpu (step.Fold counter) s = FoldFits cpu counter s
CanStep trace cpu (step.Clear counter) s = HasOwn counter (cpu_of cpu s)
CanStep trace cpu (step.Mark inode) s = HasInode trace inode (length s.marks) (length s.queues)
CanStep trace cpu (step.First domain) s = domain < length s.domains
CanStep trace cpu (step.Middle domain) s = Unit {0}
CanStep trace cpu (step.Limits domain) s = (domain < length s.domains) × (domain < length (cpu_of cpu s).held)
CanStep trace cpu (step.Count counter) s = HasCount counter s
CanStep trace cpu step.Unmark s = OfFlusher (λ flusher phase. TakenFits trace flusher s phase) s (whose_of cpu s)
CanStep trace cpu step.Look s = OfFlusher (λ flusher phase. LookFits s phase) s (whose_of cpu s)
CanStep trace cpu (step.Claim word) s = OfFlusher (λ flusher phase. LookFits s phase) s (whose_of cpu s)
CanStep trace cpu step.Complete s = OfFlusher (λ flusher phase. FlyingFits trace flusher s phase) s (whose_of cpu s)

-- Where a silent move of a CPU's turn may be made.
unfoldable pub CanMove : (trace : Trace) (cpu : ℕ) (item : Silent) (s : State) → Type 0
CanMove trace cpu silent.Decide s = DecideFits trace s (cpu_of cpu s).turn (whose_of cpu s)
CanMove trace cpu silent.End s = EndFits cpu s (whose_of cpu s)
CanMove trace cpu (silent.Estimate context) s = EstimateFits trace context (cpu_of cpu s).turn s
CanMove trace cpu (silent.Weigh context) s = WeighFits trace cpu context s
CanMove trace cpu silent.Test s = OfFlusher (λ flusher phase. TestFits trace flusher s) s (whose_of cpu s) × ((cpu_of cpu s).turn.began < 2 ^ 62)
CanMove trace cpu silent.Close s = OfFlusher (λ flusher phase. ScanningFits trace flusher s phase) s (whose_of cpu s)
CanMove trace cpu silent.HandOver s = OfFlusher (λ flusher phase. ScanningFits trace flusher s phase) s (whose_of cpu s)
CanMove trace cpu silent.Land s = OfFlusher (λ flusher phase. FlyingFits trace flusher s phase) s (whose_of cpu s)

-- Where a step, and a silent move, of the timer's turn may be made.
unfoldable pub CanTimerStep : (trace : Trace) (item : TimerStep) (s : State) → Type 0
CanTimerStep trace (timer_step.Count domain) s = (length s.cpus < 2 ^ 32) × (domain < length s.domains) × DomainFits trace domain
CanTimerStep trace (timer_step.Peak domain) s =
    (length s.cpus < 2 ^ 32) × (domain < length s.domains) × (length s.domains < 2 ^ 16) × (s.timer.limits.hard < 2 ^ 32)
CanTimerStep trace (timer_step.Unseal domain) s = (length s.cpus < 2 ^ 32) × (domain < length s.domains) × HasNext (domain_of domain s)
CanTimerStep trace (timer_step.Thresh domain) s = length s.cpus < 2 ^ 32
CanTimerStep trace (timer_step.Publish domain) s = (length s.cpus < 2 ^ 32) × (domain < length s.domains) × HasNext (domain_of domain s)

-- where a silent move of the timer's turn may be made
unfoldable pub CanTimerMove : (item : TimerSilent) (s : State) → Type 0
CanTimerMove (timer_silent.Period domain) s = domain < length s.domains
CanTimerMove timer_silent.Rest s = TimerFits s.timer

-- ---- the beginning of a turn

-- a task's turn
pub record TaskBegins (trace : Trace) (task : ℕ) (s : State) : Type 0 where
  pub there : task < length s.tasks
  pub contexts : length (task_of task s).writers ≡ length s.contexts
  pub lines : length s.contexts ≡ length trace.contexts
  pub few : length s.contexts < 2 ^ 32
  pub rest : RestFits s.now (pause_in (task_of task s)) (task_of task s).works

-- a turn of an idle flusher
pub record IdleBegins (trace : Trace) (flusher : ℕ) (s : State) : Type 0 where
  pub here : HasFlusher trace flusher (length s.flushers) (length s.queues)
  pub working : 1 ≤ s.working
  pub ages : EstimatesFit s
  pub measures : All (λ k. k < length s.contexts) (flusher_of flusher s).measures
  pub few : length s.domains < 2 ^ 32

-- a flusher's turn may begin; only an idle one's asks for anything
abbrev pub PhaseBegins : (trace : Trace) (flusher : ℕ) (s : State) (phase : ReplayPhase) → Type 0
PhaseBegins trace flusher s (phase.Idle until kept) = IdleBegins trace flusher s
PhaseBegins trace flusher s other = Unit {0}

-- Where a turn may begin.
abbrev pub CanBegin : (trace : Trace) (s : State) (whose : Whose) → Type 0
CanBegin trace s (whose.Task task) = TaskBegins trace task s
CanBegin trace s (whose.Flusher flusher) = (flusher < length s.flushers) × PhaseBegins trace flusher s (flusher_of flusher s).phase
