-- What is in range at each moment of a run, and what its numbers count.
use Rattle.std.specs.Prelude.{◌≡◌, ◌≢◌, ℕ, ◌+◌, ◌-◌, ◌*◌, ◌^◌, ◌<◌, ◌≤◌, Bool, true, false, not, if◌then◌else◌, unsigned_abs, List, [], ◌∷◌, length, get_or, count_by, sum_by, All, Option, None, Some, IfSome}
use Rattle.wbt_num.specs.Limits.{IsLawful}
use Rattle.wbt_num.specs.declared.limits.TheConstants.{MAX_LIMIT}
use Rattle.wbt_counter.specs.declared.counter.Count.{Count}
use Rattle.wbt_counter.specs.declared.counter.Counter.{Counter}
use Rattle.wbt_estimate.specs.Estimate.{IsSound}
use Rattle.wbt_flex.specs.declared.half.TheConstants.{LAST_PERIOD}
use Rattle.wbt_journal.specs.Machine.{domains, rests_last}
use Rattle.wbt_task.specs.declared.allowance.Due.TheVariants as due
use Rattle.wbt_task.specs.declared.history.Writer.{Writer}
use Rattle.wbt_trace.specs.Lawful.{IsPace}
use Rattle.wbt_trace.specs.Sofar.{pages_in}
use Rattle.wbt_trace.specs.WriterList.{is_writer}
use Rattle.wbt_trace.specs.declared.trace.Pace.{Pace}
use Rattle.wbt_trace.specs.declared.trace.Trace.{Trace}
use Rattle.wbt_replay_moves.specs.Definition.Check.{writer_in}
use Rattle.wbt_journal.specs.Machine.{batch_of}
use Rattle.wbt_replay_moves.specs.Definition.Cpu.{own_of}
use Rattle.wbt_replay_moves.specs.Definition.State.{State, cpu_of, no_cpu, no_task, no_flusher, no_domain, no_context, no_held}
use Rattle.wbt_rules.specs.Flusher.{IsWithinChunk, chunk_at}
use Rattle.wbt_rules.specs.declared.moments.TheConstants.{PERIOD_TICKS}
use Rattle.wbt_rules.specs.declared.scan.Scan.{Scan}
use Rattle.wbt_rules.specs.Things.{inode_of, context_of, device_of, group_of}
use Rattle.wbt_replay_moves.specs.declared.state.Actor.{Actor}
use Rattle.wbt_replay_moves.specs.declared.state.Actor.TheVariants as actor
use Rattle.wbt_replay_moves.specs.declared.state.Cpu.{Cpu}
use Rattle.wbt_replay_moves.specs.declared.state.Domain.{Domain}
use Rattle.wbt_replay_moves.specs.declared.state.Flusher.{Flusher}
use Rattle.wbt_replay_moves.specs.declared.state.ReplayJob.{ReplayJob}
use Rattle.wbt_replay_moves.specs.declared.state.ReplayJob.TheVariants as job
use Rattle.wbt_replay_moves.specs.declared.state.ReplayPhase.{ReplayPhase}
use Rattle.wbt_replay_moves.specs.declared.state.ReplayPhase.TheVariants as phase
use Rattle.wbt_replay_moves.specs.declared.state.Stretch.{Stretch}
use Rattle.wbt_replay_moves.specs.declared.state.Stretch.TheVariants as stretch
use Rattle.wbt_replay_moves.specs.declared.state.ReplayTask.{ReplayTask}
use Rattle.wbt_replay_moves.specs.declared.state.Timer.{Timer}
use Rattle.wbt_replay_moves.specs.declared.state.ReplayTurn.{ReplayTurn}
use Rattle.wbt_replay_moves.specs.declared.state.Whose.{Whose}
use Rattle.wbt_replay_moves.specs.declared.state.Whose.TheVariants as whose
use Rattle.wbt_replay_moves.specs.declared.state.ReplayWork.{ReplayWork}
use Rattle.wbt_replay_moves.specs.declared.state.ReplayWork.TheVariants as work
use Rattle.wbt_replay_moves.specs.declared.state.Writeback.{Writeback}
use Rattle.wbt_replay_moves.specs.declared.todo.TimerSilent.TheVariants as timer_silent
use Rattle.wbt_replay_moves.specs.declared.todo.TimerStep.TheVariants as timer_step
use Rattle.wbt_replay_moves.specs.declared.todo.TimerTodo.{TimerTodo}
use Rattle.wbt_replay_moves.specs.declared.todo.TimerTodo.TheVariants as timer_todo
use Rattle.wbt_replay_order.specs.Definition.Opening.{first_cpu}
use Rattle.wbt_replay_order.specs.Definition.Order.{is_finished}
use Rattle.wbt_replay_order.specs.Claims.Setting.{writers_in}
use Rattle.wbt_replay_order.specs.Kept.Facts.{IsPageOf, IsFlusherOn, IsTaskOn}
use Rattle.wbt_replay_order.specs.Kept.Horizon.{horizon, most_ever}
use Rattle.wbt_replay_order.specs.Kept.Turns.{ItemFits, AreInOrder, Settles, settles_next, Agrees, IsOpen, closes_in}
use Rattle.wbt_expiry.specs.Waiting.{Waiting as Wheel, Each}

-- ---- domains and contexts, after so many steps of at most so many

-- no shared count has more pages in absolute value
abbrev pub most_counted : ℕ
most_counted = 2 ^ 32

-- A count has one version a fold. Each step that is left may fold at most 512 pages into it, and finds room.
pub record IsCount (most steps : ℕ) (count : Count) : Type 0 where
  pub version : count.version ≤ steps
  pub value : unsigned_abs count.value + 512 * (most - steps) ≤ most_counted

-- a domain after so many steps: its limits are lawful and under its peak, and its sequence, count and period are in range
pub record IsDomain (most steps : ℕ) (d : Domain) : Type 0 where
  pub limits : IsLawful d.limits
  pub sequence : d.sequence ≤ steps
  pub under_peak : d.limits.hard ≤ d.peak
  pub peak : d.peak ≤ MAX_LIMIT
  pub count : IsCount most steps d.count
  pub period : d.events.period ≤ LAST_PERIOD

-- all domains of the trace, each in range
pub record AreDomains (trace : Trace) (most steps : ℕ) (ds : List Domain) : Type 0 where
  pub many : length ds ≡ domains trace
  pub each : (d : ℕ) → IsDomain most steps (get_or ds d no_domain)

-- A part is never at a later period than its domain.
pub record IsContext (trace : Trace) (most steps now : ℕ) (ds : List Domain) (k : ℕ) (w : Writeback) : Type 0 where
  pub count : IsCount most steps w.count
  pub estimate : IsSound w.estimate
  pub estimated : w.estimate.at ≤ now
  pub part : w.part.period ≤ (get_or ds 0 no_domain).events.period
  pub cgroup_part : w.cgroup_part.period ≤ (get_or ds (group_of trace k) no_domain).events.period

-- all contexts of the trace, each in range
pub record AreContexts (trace : Trace) (most steps now : ℕ) (ds : List Domain) (cs : List Writeback) : Type 0 where
  pub many : length cs ≡ length trace.contexts
  pub each : (k : ℕ) → k < length trace.contexts → IsContext trace most steps now ds k (get_or cs k no_context)

-- ---- pages that were claimed and completed

-- steps that claimed a page of the batch, or claimed and completed one of the flight
abbrev pub flown_at : (batch : List ℕ) (phase : ReplayPhase) → ℕ
flown_at batch (phase.Idle until kept) = 0
flown_at batch (phase.Taken inode) = 0
flown_at batch (phase.Scanning scan) = length batch
flown_at batch (phase.Flying inode pages until) = pages + (pages - length batch)
flown_at batch phase.Finished = 0

-- steps of a flusher's that claimed or completed a page that isn't written yet
abbrev pub flown_of : (f : Flusher) → ℕ
flown_of f = flown_at f.batch f.phase

-- pages that a context has written
abbrev pub written_of : (w : Writeback) → ℕ
written_of w = w.written

-- Each page that a context has written was claimed and completed by a step; those of a flusher are counted likewise, and so many steps
-- aren't counted yet. Events are pages written.
pub record AreWritten (trace : Trace) (steps spare : ℕ) (ds : List Domain) (cs : List Writeback) (fs : List Flusher) : Type 0 where
  pub total : 2 * sum_by written_of cs + sum_by flown_of fs + spare ≤ steps
  pub events : (d : ℕ) → (get_or ds d no_domain).events.events ≤ sum_by written_of cs + 1
  pub part : (k : ℕ) → (get_or cs k no_context).part.events ≤ sum_by written_of cs
  pub cgroup_part : (k : ℕ) → (get_or cs k no_context).cgroup_part.events ≤ sum_by written_of cs

-- ---- inodes

-- the inode is one of the device's
pub record AreQueued (trace : Trace) (device : ℕ) (inode : ℕ) : Type 0 where
  pub there : inode < length trace.inodes
  pub ours : device_of trace inode ≡ device

-- each device has a queue, of its own inodes alone
pub record AreQueues (trace : Trace) (qs : List (List ℕ)) : Type 0 where
  pub many : length qs ≡ length trace.devices
  pub each : (d : ℕ) → All (AreQueued trace d) (get_or qs d [])

-- ---- tasks

-- a write that a task still has to do is one of a writer of its, within an inode
pub record IsWriteOf (trace : Trace) (task inode page pages : ℕ) : Type 0 where
  pub some : 1 ≤ pages
  pub first : IsPageOf trace inode page
  pub last : IsPageOf trace inode (page + (pages - 1))
  pub writer : is_writer task (context_of trace inode) (writers_in trace) ≡ true

-- a task's work fits the trace; a rest is at most 2 ^ 40 ticks
abbrev pub WorkFits : (trace : Trace) (task : ℕ) (w : ReplayWork) → Type 0
WorkFits trace task (work.Write inode page pages) = IsWriteOf trace task inode page pages
WorkFits trace task (work.Rest ticks) = ticks ≤ 2 ^ 40

-- whether the last of these works is a rest; and what is so where there is none
abbrev pub rests_at_end : (none : Bool) (works : List ReplayWork) → Bool
rests_at_end none [] = none
rests_at_end none (work.Write inode page pages ∷ more) = rests_at_end false more
rests_at_end none (work.Rest ticks ∷ more) = rests_at_end true more

-- a writer's counts after so many steps, with what it may still dirty before its next check
pub record WriterFits (trace : Trace) (steps : ℕ) (w : Writer) : Type 0 where
  pub dirtied : w.task.nr_dirtied ≤ steps
  pub allowance : w.task.nr_dirtied_pause ≤ 2 ^ 42
  pub left : w.left ≤ trace.cap
  pub some_left : w.due ≡ due.No → 1 ≤ w.left

-- A task has written at most as many pages since it began or rested for its pace as the pace says; it counts none without a pace.
abbrev pub SinceFits : (pace : Option Pace) (since : ℕ) → Type 0
SinceFits None since = since ≡ 0
SinceFits (Some pace) since = since ≤ pace.pages

-- a task after so many steps: its works, writers and pace are in range
pub record IsTask (trace : Trace) (steps task : ℕ) (t : ReplayTask) : Type 0 where
  pub works : All (WorkFits trace task) t.works
  pub context : 1 ≤ length trace.contexts → t.context < length trace.contexts
  pub writers : length t.writers ≡ length trace.contexts
  pub fit : All (WriterFits trace steps) t.writers
  -- the check of the last page's writer alone may be due
  pub due : (k : ℕ) → (writer_in k t).due ≡ due.Check → k ≡ t.context
  pub ended : t.ended ≡ true → t.works ≡ []
  -- its last work is a write, but for a task that rests last
  pub last : rests_last trace task ≡ false → rests_at_end false t.works ≡ false
  pub pace : IfSome t.pace IsPace
  pub since : SinceFits t.pace t.since

-- all tasks of the trace, each in range
pub record AreTasks (trace : Trace) (steps : ℕ) (ts : List ReplayTask) : Type 0 where
  pub many : length ts ≡ length trace.tasks
  pub each : (t : ℕ) → t < length trace.tasks → IsTask trace steps t (get_or ts t no_task)

-- pages that one of a task's writers counts
abbrev pub dirtied_by : (w : Writer) → ℕ
dirtied_by w = w.task.nr_dirtied

-- pages that the writers of a task count; none once it has ended
abbrev pub dirtied_of : (t : ReplayTask) → ℕ
dirtied_of t = if t.ended then 0 else sum_by dirtied_by t.writers

-- pages that a CPU has of tasks that ended
abbrev pub leaks_of : (c : Cpu) → ℕ
leaks_of c = c.local.leaks

-- Each was a step; so many steps aren't counted yet.
abbrev pub AreDirtied : (steps spare : ℕ) (ts : List ReplayTask) (cs : List Cpu) → Type 0
AreDirtied steps spare ts cs = sum_by dirtied_of ts + sum_by leaks_of cs + spare ≤ steps

-- ---- flushers

-- the place of a scan within its inode, and the pages of it that are claimed
pub record IsScanAt (trace : Trace) (batch : List ℕ) (scan : Scan) : Type 0 where
  pub there : scan.inode < length trace.inodes
  pub first_is : scan.first ≡ (inode_of trace scan.inode).first
  pub pages_is : scan.pages ≡ (inode_of trace scan.inode).pages
  pub start : scan.start < scan.pages
  pub behind : length batch ≤ scan.passed
  pub within : scan.passed ≤ scan.pages
  pub some : 1 ≤ scan.quota
  pub few : length batch ≤ scan.quota
  pub ours : All (IsPageOf trace scan.inode) batch

-- a flight's pages that aren't completed yet are of one inode, and no more than it handed over
pub record IsFlightOf (trace : Trace) (batch : List ℕ) (inode pages : ℕ) : Type 0 where
  pub there : inode < length trace.inodes
  pub rest : length batch ≤ pages
  pub few : pages ≤ pages_in trace.inodes
  pub ours : All (IsPageOf trace inode) batch

-- a flusher's batch holds what its phase says
abbrev pub IsAt : (trace : Trace) (batch : List ℕ) (phase : ReplayPhase) → Type 0
IsAt trace batch (phase.Idle until kept) = batch ≡ []
IsAt trace batch (phase.Taken inode) = (batch ≡ []) × (inode < length trace.inodes)
IsAt trace batch (phase.Scanning scan) = IsScanAt trace batch scan
IsAt trace batch (phase.Flying inode pages until) = IsFlightOf trace batch inode pages
IsAt trace batch phase.Finished = batch ≡ []

-- A list has inodes of the trace alone, and a place for each of them.
pub record IsListOf (trace : Trace) (list : Wheel) : Type 0 where
  pub inodes : list.inodes ≡ length trace.inodes
  pub each : Each (λ pair. pair.inode < length trace.inodes) list.pairs

-- the list of a flusher, where it has one, fits the trace
abbrev pub WheelFits : (trace : Trace) (wheel : Option Wheel) → Type 0
WheelFits trace None = Unit {0}
WheelFits trace (Some list) = IsListOf trace list

-- a scan ends with no more pages than the line of the flusher's device says
abbrev pub IsQuotaOf : (trace : Trace) (flusher : ℕ) (phase : ReplayPhase) → Type 0
IsQuotaOf trace flusher (phase.Idle until kept) = Unit {0}
IsQuotaOf trace flusher (phase.Taken inode) = Unit {0}
IsQuotaOf trace flusher (phase.Scanning scan) = IsWithinChunk (chunk_at trace flusher) scan.quota
IsQuotaOf trace flusher (phase.Flying inode pages until) = Unit {0}
IsQuotaOf trace flusher phase.Finished = Unit {0}

-- A flusher has a place for each inode, which is one of the inode's pages.
pub record ArePlaces (trace : Trace) (places : List ℕ) : Type 0 where
  pub many : length places ≡ length trace.inodes
  pub below : (n : ℕ) → n < length trace.inodes → get_or places n 0 < (inode_of trace n).pages

-- a flusher's phase, batch, contexts, list and places fit the trace
pub record IsFlusher (trace : Trace) (flusher : ℕ) (f : Flusher) : Type 0 where
  pub phase : IsAt trace f.batch f.phase
  pub quota : IsQuotaOf trace flusher f.phase
  pub hard : f.hard ≤ MAX_LIMIT
  pub measures : All (λ k. k < length trace.contexts) f.measures
  pub weighs : All (λ k. k < length trace.contexts) f.weighs
  pub wheel : WheelFits trace f.wheel
  pub places : flusher < length trace.flushers → ArePlaces trace f.places

-- all flushers of the trace, each in range
pub record AreFlushers (trace : Trace) (fs : List Flusher) : Type 0 where
  pub many : length fs ≡ length trace.flushers
  pub each : (f : ℕ) → IsFlusher trace f (get_or fs f no_flusher)

-- ---- CPUs

-- a turn is of a task or a flusher of its CPU
abbrev pub IsWhose : (trace : Trace) (cpu : ℕ) (whose : Whose) → Type 0
IsWhose trace cpu (whose.Task task) = IsTaskOn trace cpu task
IsWhose trace cpu (whose.Flusher flusher) = IsFlusherOn trace cpu flusher

-- what a turn has loaded is in range: limits are lawful, and counts not too great in absolute value
pub record IsTurn (now : ℕ) (turn : ReplayTurn) : Type 0 where
  pub began : turn.began ≤ now
  pub global : IsLawful turn.global.limits
  pub cgroup : IsLawful turn.cgroup.limits
  pub global_count : unsigned_abs turn.global.count.value ≤ most_counted
  pub cgroup_count : unsigned_abs turn.cgroup.count.value ≤ most_counted
  pub context_count : unsigned_abs turn.context.value ≤ most_counted

-- a CPU after so many steps: the trace's jobs and tasks, a turn in range, an own number for each counter, and held limits for each domain
pub record IsCpu (trace : Trace) (steps now cpu : ℕ) (c : Cpu) : Type 0 where
  pub jobs : c.jobs ≡ (first_cpu trace cpu).jobs
  pub tasks : c.tasks ≡ (first_cpu trace cpu).tasks
  pub next : 1 ≤ length c.jobs → c.next < length c.jobs
  pub next_task : 1 ≤ length c.tasks → c.next_task < length c.tasks
  pub turn : IsTurn now c.turn
  pub whose : 1 ≤ length c.todo → IsWhose trace cpu c.turn.whose
  pub todo : All (ItemFits trace) c.todo
  pub in_order : AreInOrder c.todo
  pub own_domains : length c.own_domains ≡ domains trace
  pub own_contexts : length c.own_contexts ≡ length trace.contexts
  pub many_held : length c.held ≡ domains trace
  pub held : (d : ℕ) → IsLawful (get_or c.held d no_held).limits
  pub since : c.local.since_check ≤ steps
  pub made : c.made ≤ steps

-- all CPUs of the trace, each in range
pub record AreCpus (trace : Trace) (steps now : ℕ) (cs : List Cpu) : Type 0 where
  pub many : length cs ≡ trace.cpus
  pub each : (i : ℕ) → i < trace.cpus → IsCpu trace steps now i (get_or cs i no_cpu)

-- The CPU's turn is of a task or a flusher that is at what its items say; each flusher of the CPU that isn't at its turn is open.
pub record IsAgreed (trace : Trace) (ts : List ReplayTask) (fs : List Flusher) (cpu : ℕ) (c : Cpu) : Type 0 where
  pub items : All (Agrees trace ts fs c.turn.whose) c.todo
  pub others : (f : ℕ) → IsFlusherOn trace cpu f → c.turn.whose ≢ whose.Flusher f → IsOpen trace (get_or fs f no_flusher)

-- what each CPU still has to do agrees with its tasks and flushers
abbrev pub AreAgreed : (trace : Trace) (ts : List ReplayTask) (fs : List Flusher) (cs : List Cpu) → Type 0
AreAgreed trace ts fs cs = (i : ℕ) → i < trace.cpus → IsAgreed trace ts fs i (get_or cs i no_cpu)

-- and the flusher whose turn it is, but where the turn closes it
abbrev pub IsClosed : (trace : Trace) (fs : List Flusher) (cpu : ℕ) (c : Cpu) → Type 0
IsClosed trace fs cpu c = (f : ℕ) → IsFlusherOn trace cpu f → c.turn.whose ≡ whose.Flusher f → closes_in c.todo ≡ false → IsOpen trace (get_or fs f no_flusher)

-- ---- who runs

-- whether a task hasn't ended
abbrev pub is_running : (t : ReplayTask) → Bool
is_running t = not t.ended

-- the job is a flusher that isn't finished
abbrev pub is_at_work : (fs : List Flusher) (j : ReplayJob) → Bool
is_at_work fs job.Writer = false
is_at_work fs (job.Flusher flusher) = not (is_finished (get_or fs flusher no_flusher).phase)

-- the CPU's flushers that aren't finished, where it isn't stopped
abbrev pub working_on : (fs : List Flusher) (c : Cpu) → ℕ
working_on fs c = if c.stopped then 0 else count_by (is_at_work fs) c.jobs

-- whether a CPU is stopped
abbrev pub is_stopped : (c : Cpu) → Bool
is_stopped c = c.stopped

-- the state's three counts are those of running tasks, working flushers and stopped CPUs
pub record AreCounted (running working stopped : ℕ) (ts : List ReplayTask) (fs : List Flusher) (cs : List Cpu) : Type 0 where
  pub tasks : running ≡ count_by is_running ts
  pub flushers : working ≡ sum_by (working_on fs) cs
  pub cpus : stopped ≡ count_by is_stopped cs

-- ---- the order, and the timer

-- the CPU is the trace's
abbrev pub IsActor : (trace : Trace) (a : Actor) → Type 0
IsActor trace (actor.Cpu cpu) = cpu < trace.cpus
IsActor trace actor.Timer = Unit {0}

-- the actor of an order line is the trace's; its ticks are at most 2 ^ 40
abbrev pub IsStretch : (trace : Trace) (o : Stretch) → Type 0
IsStretch trace (stretch.Steps actor steps) = IsActor trace actor
IsStretch trace (stretch.Tick ticks) = ticks ≤ 2 ^ 40

-- the domain that an item of the timer's turn names is there
abbrev pub TimerItemFits : (trace : Trace) (t : TimerTodo) → Type 0
TimerItemFits trace (timer_todo.Step (timer_step.Count domain)) = domain < domains trace
TimerItemFits trace (timer_todo.Step (timer_step.Peak domain)) = domain < domains trace
TimerItemFits trace (timer_todo.Step (timer_step.Unseal domain)) = domain < domains trace
TimerItemFits trace (timer_todo.Step (timer_step.Thresh domain)) = domain < domains trace
TimerItemFits trace (timer_todo.Step (timer_step.Publish domain)) = domain < domains trace
TimerItemFits trace (timer_todo.Silent (timer_silent.Period domain)) = domain < domains trace
TimerItemFits trace (timer_todo.Silent timer_silent.Rest) = Unit {0}

-- Where the next step is one of the three that publish limits, they are these of the domain, or anyone's where that isn't known.
abbrev pub PublishesNext : (Ok : ℕ → Type 0) (todos : List TimerTodo) → Type 0
PublishesNext Ok [] = Unit {0}
PublishesNext Ok (timer_todo.Step (timer_step.Count domain) ∷ more) = Unit {0}
PublishesNext Ok (timer_todo.Step (timer_step.Peak domain) ∷ more) = Unit {0}
PublishesNext Ok (timer_todo.Step (timer_step.Unseal domain) ∷ more) = Ok domain
PublishesNext Ok (timer_todo.Step (timer_step.Thresh domain) ∷ more) = Ok domain
PublishesNext Ok (timer_todo.Step (timer_step.Publish domain) ∷ more) = Ok domain
PublishesNext Ok (timer_todo.Silent item ∷ more) = Unit {0}

-- Limits are published after their peak alone, and the rest comes last.
abbrev pub AreTimerItems : (todos : List TimerTodo) → Type 0
AreTimerItems [] = Unit {0}
AreTimerItems (timer_todo.Step (timer_step.Count domain) ∷ more) = PublishesNext (λ d. ⊥) more × AreTimerItems more
AreTimerItems (timer_todo.Step (timer_step.Peak domain) ∷ more) = PublishesNext (λ d. d ≡ domain) more × AreTimerItems more
AreTimerItems (timer_todo.Step (timer_step.Unseal domain) ∷ more) = PublishesNext (λ d. d ≡ domain) more × AreTimerItems more
AreTimerItems (timer_todo.Step (timer_step.Thresh domain) ∷ more) = PublishesNext (λ d. d ≡ domain) more × AreTimerItems more
AreTimerItems (timer_todo.Step (timer_step.Publish domain) ∷ more) = PublishesNext (λ d. ⊥) more × AreTimerItems more
AreTimerItems (timer_todo.Silent (timer_silent.Period domain) ∷ more) = PublishesNext (λ d. ⊥) more × AreTimerItems more
AreTimerItems (timer_todo.Silent timer_silent.Rest ∷ more) = more ≡ []

-- the timer's turn and its moments are in range
pub record IsTimer (trace : Trace) (now : ℕ) (ds : List Domain) (timer : Timer) : Type 0 where
  pub todo : All (TimerItemFits trace) timer.todo
  pub in_order : AreTimerItems timer.todo
  pub under_peak : PublishesNext (λ d. timer.limits.hard ≤ (get_or ds d no_domain).peak) timer.todo
  pub began : timer.began ≤ now
  pub limits : IsLawful timer.limits
  pub period : timer.period ≤ now + PERIOD_TICKS

-- ---- the state

-- all but what a CPU's own move suspends, where so many steps and ticks of the move aren't counted yet
pub record Holds (trace : Trace) (steps ticks : ℕ) (s : State) : Type 0 where
  pub pages : s.pages ≡ pages_in trace.inodes
  pub few : length s.steps ≤ s.most
  pub long : s.most ≤ most_ever
  pub domains : AreDomains trace s.most (length s.steps) s.domains
  pub contexts : AreContexts trace s.most (length s.steps) s.now s.domains s.contexts
  pub written : AreWritten trace (length s.steps) steps s.domains s.contexts s.flushers
  pub marks : length s.marks ≡ length trace.inodes
  pub queues : AreQueues trace s.queues
  pub tasks : AreTasks trace (length s.steps) s.tasks
  pub dirtied : AreDirtied (length s.steps) steps s.tasks s.cpus
  pub flushers : AreFlushers trace s.flushers
  pub cpus : AreCpus trace (length s.steps) s.now s.cpus
  pub agreed : AreAgreed trace s.tasks s.flushers s.cpus
  pub counted : AreCounted s.running s.working s.stopped s.tasks s.flushers s.cpus
  pub orders : All (IsStretch trace) s.orders
  pub timer : IsTimer trace s.now s.domains s.timer
  pub horizon : horizon ticks s

-- what holds at each moment of a run, between moves
pub record Sound (trace : Trace) (s : State) : Type 0 where
  pub holds : Holds trace 0 0 s
  pub closed : (i : ℕ) → i < trace.cpus → IsClosed trace s.flushers i (cpu_of i s)

-- An own number isn't full, but where its fold or its clear comes next.
pub record IsRoom (trace : Trace) (c : Cpu) : Type 0 where
  pub settles : Settles c.todo
  pub most : (x : Counter) → unsigned_abs (own_of x c) ≤ batch_of trace x
  pub room : (x : Counter) → settles_next x c.todo ≡ false → unsigned_abs (own_of x c) < batch_of trace x

-- no own number of a CPU is full, but where its fold or its clear comes next
pub record HasRoom (trace : Trace) (s : State) : Type 0 where
  pub own : (i : ℕ) → i < trace.cpus → IsRoom trace (cpu_of i s)
