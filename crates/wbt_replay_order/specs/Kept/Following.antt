-- What the states of a run and of the step relation have in common at each moment, so that each next step is allowed.
use Rattle.std.specs.Prelude.{◌≡◌, ℕ, zero, suc, ◌<◌, ◌≤◌, ◌⊎◌, Bool, true, false, cond, ◌==◌, ℤ, pos, Some, List, [], ◌∷◌, ◌++◌, length, get_or, None, All}
use Rattle.std.specs.List.{list_any}
use Rattle.wbt_trace.specs.Sofar.{pages_in}
use Rattle.wbt_trace.specs.WriterList.{is_writer}
use Rattle.wbt_trace.specs.declared.trace.Trace.{Trace}
use Rattle.wbt_counter.specs.Counters.{without_debt}
use Rattle.wbt_counter.specs.History.{sum_of}
use Rattle.wbt_counter.specs.Sums.{total}
use Rattle.wbt_counter.specs.Through.{fits}
use Rattle.wbt_counter.specs.declared.counter.Count.{Count}
use Rattle.wbt_counter.specs.declared.counter.Counter.{Counter}
use Rattle.wbt_counter.specs.declared.counter.Counter.TheVariants.{Domain, Context}
use Rattle.wbt_counter.specs.declared.record.Debt.{Debt}
use Rattle.wbt_counter.specs.declared.record.Debt.TheVariants.{Free, Event as OwesEvent, FoldDue, ClearDue}
use Rattle.wbt_counter.specs.declared.record.Owed.{Owed}
use Rattle.wbt_counter.specs.declared.record.Reading.{Reading}
use Rattle.wbt_book.specs.Book.{Book, is_claimable}
use Rattle.wbt_book.specs.Ledger.{times_in}
use Rattle.wbt_book.specs.PageWords.{shared_word, bits_at}
use Rattle.wbt_grant.specs.Kinds.{Step, grant, IsLookAt, last_found, last_raised, Allowed, AreAllowed, after, run}
use Rattle.wbt_grant.specs.Setting.{Setting, IsSetting}
use Rattle.wbt_grant.specs.State as throttle
use Rattle.wbt_grant.specs.State.{writer_in as record_of, held_of, found_of, stage_of, sequence_of}
use Rattle.wbt_grant.specs.declared.record.CpuRecord.{CpuRecord}
use Rattle.wbt_grant.specs.declared.record.DomainLimits.{DomainLimits}
use Rattle.wbt_grant.specs.declared.record.Finding.TheVariants as finding
use Rattle.wbt_grant.specs.declared.record.LastStep.{LastStep}
use Rattle.wbt_grant.specs.declared.record.Loading.{Loading}
use Rattle.wbt_grant.specs.declared.record.Raised.{Raised}
use Rattle.wbt_grant.specs.declared.record.Stage.{Stage}
use Rattle.wbt_grant.specs.declared.record.Stage.TheVariants as stage
use Rattle.wbt_strict.specs.Bound.{greatest_reading}
use Rattle.wbt_journal.specs.Machine.{domains}
use Rattle.wbt_journal.specs.declared.step.StepEntry.{StepEntry}
use Rattle.wbt_num.specs.declared.limits.Limits.{Limits}
use Rattle.wbt_num.specs.declared.limits.TheConstants.{MAX_LIMIT}
use Rattle.wbt_task.specs.declared.allowance.Due.TheVariants as due
use Rattle.wbt_replay_moves.specs.Definition.Check.{writer_in, writer_of}
use Rattle.wbt_replay_moves.specs.Definition.State.{State, no_task, no_flusher, no_domain, no_context, cpu_of, domain_of}
use Rattle.wbt_rules.specs.Places.{page_of as next_page}
use Rattle.wbt_rules.specs.Strict.{is_strict}
use Rattle.wbt_rules.specs.Things.{context_of, group_of, flusher_cpu}
use Rattle.wbt_replay_moves.specs.declared.state.Cpu.{Cpu}
use Rattle.wbt_replay_moves.specs.declared.state.Domain.{Domain as DomainState}
use Rattle.wbt_replay_moves.specs.declared.state.Flusher.{Flusher}
use Rattle.wbt_replay_moves.specs.declared.state.Found.{Found}
use Rattle.wbt_replay_moves.specs.declared.state.Load.{Load}
use Rattle.wbt_replay_moves.specs.declared.state.ReplayPhase.{ReplayPhase}
use Rattle.wbt_replay_moves.specs.declared.state.ReplayPhase.TheVariants as phase
use Rattle.wbt_replay_moves.specs.declared.state.ReplayTask.{ReplayTask}
use Rattle.wbt_replay_moves.specs.declared.state.ReplayTurn.{ReplayTurn}
use Rattle.wbt_replay_moves.specs.declared.state.Whose.{Whose}
use Rattle.wbt_replay_moves.specs.declared.state.Whose.TheVariants as whose
use Rattle.wbt_replay_moves.specs.declared.state.Writeback.{Writeback}
use Rattle.wbt_replay_moves.specs.declared.todo.Silent.TheVariants as silent
use Rattle.wbt_replay_moves.specs.declared.todo.Step.TheVariants as item
use Rattle.wbt_replay_moves.specs.declared.todo.TimerStep.TheVariants as timer_item
use Rattle.wbt_replay_moves.specs.declared.todo.TimerTodo.{TimerTodo}
use Rattle.wbt_replay_moves.specs.declared.todo.TimerTodo.TheVariants as timer_todo
use Rattle.wbt_replay_moves.specs.declared.todo.Todo.{Todo}
use Rattle.wbt_replay_moves.specs.declared.todo.Todo.TheVariants as todo
use Rattle.wbt_replay_order.specs.Claims.Path.{events_told, folds_told, founds_told, readings_told, HasTriples, reading_of, entries_of, tells, AreAmong, FoldsBehind, is_decide, is_limits_of, is_count_of, is_context_count, KeepsLoads, LinesArePublished}
use Rattle.wbt_replay_order.specs.Claims.Setting.{writers_in, writer_at}
use Rattle.wbt_replay_order.specs.Definition.Strict.{part_used}
use Rattle.wbt_replay_order.specs.Definition.Tasks.{task_cpu}
use Rattle.wbt_replay_order.specs.Kept.Facts.{IsPageOf, IsTaskOn, IsFlusherOn}

-- ---- what of a setting is needed of the trace's

-- the setting is the trace's in all that the run's steps need of it
pub record Suits (trace : Trace) (set : Setting) : Type 0 where
  pub cpus : set.cpus ≡ trace.cpus
  pub cap : set.cap ≡ trace.cap
  pub contexts : set.contexts ≡ length trace.contexts
  pub group : (k : ℕ) → set.group k ≡ group_of trace k
  pub pages : set.pages ≡ pages_in trace.inodes
  pub page : (n p : ℕ) → IsPageOf trace n p → p < set.pages
  pub home : (n p : ℕ) → IsPageOf trace n p → set.home p ≡ context_of trace n
  pub writers : set.writers ≡ length (writers_in trace)
  pub seat : (w : ℕ) → set.seat w ≡ task_cpu trace (writer_at trace w).task
  pub works_in : (w : ℕ) → set.works_in w ≡ (writer_at trace w).context
  pub writer_context : (w : ℕ) → w < set.writers → (writer_at trace w).context < length trace.contexts
  -- a pair is a writer once
  pub once : (v w : ℕ) → v < set.writers → w < set.writers → (writer_at trace v).task ≡ (writer_at trace w).task
      → (writer_at trace v).context ≡ (writer_at trace w).context → v ≡ w
  pub writer_is : (task context : ℕ) → is_writer task context (writers_in trace) ≡ true
      → (w : ℕ) × (w < set.writers) × ((writer_at trace w).task ≡ task) × ((writer_at trace w).context ≡ context)
  pub setting_is : IsSetting set
  pub word : (book : Book) (p : ℕ) → set.coding.page_word book p ≡ shared_word book p
  pub bits : (word p : ℕ) → set.coding.page_bits word p ≡ bits_at word p
  -- a sequence word has one hard limit
  pub hard_once : (q h p g : ℕ) → h ≤ MAX_LIMIT → g ≤ MAX_LIMIT → set.coding.sequence_word q h ≡ set.coding.sequence_word p g → h ≡ g

-- ---- debts, without the numbers that are to be cleared, which a list of what to do doesn't name

-- a debt without the number that is to be cleared
abbrev pub bare : (debt : Debt) → Debt
bare Free = Free
bare (OwesEvent a) = OwesEvent a
bare FoldDue = FoldDue
bare (ClearDue d) = ClearDue (pos 0)

-- debts without the numbers that are to be cleared
abbrev pub bared : (debts : List Owed) → List Owed
bared [] = []
bared (owed ∷ rest) = record { counter = owed.counter; debt = bare owed.debt } ∷ bared rest

-- the debts that stand in what a CPU still has to do: a clear comes with its fold
abbrev pub debts_in : (todos : List Todo) → List Owed
debts_in [] = []
debts_in (todo.Step (item.Add x a) ∷ more) = (record { counter = x; debt = OwesEvent a }) ∷ debts_in more
debts_in (todo.Step (item.Fold x) ∷ more) = (record { counter = x; debt = FoldDue }) ∷ without_debt x (debts_in more)
debts_in (todo.Step (item.Clear x) ∷ more) = (record { counter = x; debt = ClearDue (pos 0) }) ∷ debts_in more
debts_in (todo.Step step ∷ more) = debts_in more
debts_in (todo.Silent move ∷ more) = debts_in more

-- A claim comes next, or a further load of limits: it goes on where the step before it left off.
abbrev pub resumes : (todos : List Todo) → Bool
resumes [] = false
resumes (todo.Step (item.Claim word) ∷ more) = true
resumes (todo.Step (item.Middle d) ∷ more) = true
resumes (todo.Step (item.Limits d) ∷ more) = true
resumes (todo.Step step ∷ more) = false
resumes (todo.Silent move ∷ more) = false

-- the scan closes, or its batch is handed over
abbrev pub is_closing : (t : Todo) → Bool
is_closing (todo.Step step) = false
is_closing (todo.Silent silent.Close) = true
is_closing (todo.Silent silent.HandOver) = true
is_closing (todo.Silent move) = false

-- Nothing is owed after it, and nothing is resumed.
pub record OwesNothing (todos : List Todo) : Type 0 where
  pub debts : debts_in todos ≡ []
  pub claims : resumes todos ≡ false

-- Nor is this counter owed twice.
pub record OwesOnce (x : Counter) (todos : List Todo) : Type 0 where
  pub debts : without_debt x (debts_in todos) ≡ debts_in todos
  pub claims : resumes todos ≡ false

-- The counter is cleared next.
abbrev pub IsClearedNext : (x : Counter) (todos : List Todo) → Type 0
IsClearedNext x [] = ⊥
IsClearedNext x (todo.Step (item.Clear y) ∷ more) = y ≡ x
IsClearedNext x (todo.Step step ∷ more) = ⊥
IsClearedNext x (todo.Silent move ∷ more) = ⊥

-- The further loads of a domain's limits come next.
abbrev pub IsMiddleNext : (d : ℕ) (todos : List Todo) → Type 0
IsMiddleNext d [] = ⊥
IsMiddleNext d (todo.Step (item.Middle e) ∷ more) = e ≡ d
IsMiddleNext d (todo.Step step ∷ more) = ⊥
IsMiddleNext d (todo.Silent move ∷ more) = ⊥

-- the last of the three loads of the domain's limits comes next
abbrev pub IsLastNext : (d : ℕ) (todos : List Todo) → Type 0
IsLastNext d [] = ⊥
IsLastNext d (todo.Step (item.Limits e) ∷ more) = e ≡ d
IsLastNext d (todo.Step step ∷ more) = ⊥
IsLastNext d (todo.Silent move ∷ more) = ⊥

-- A claim comes first, if at all, no counter is owed twice, and nothing is owed after an item that isn't a debt. The three loads of
-- a domain's limits follow each other.
abbrev pub Tidy : (todos : List Todo) → Type 0
Tidy [] = Unit {0}
Tidy (todo.Step (item.Add x a) ∷ more) = OwesOnce x more × Tidy more
Tidy (todo.Step (item.Fold x) ∷ more) = IsClearedNext x more × Tidy more
Tidy (todo.Step (item.Clear x) ∷ more) = OwesOnce x more × Tidy more
Tidy (todo.Step item.Look ∷ more) = OwesNothing more × (list_any is_closing more ≡ false) × Tidy more
Tidy (todo.Step (item.Claim word) ∷ more) = OwesNothing more × (list_any is_closing more ≡ false) × Tidy more
Tidy (todo.Step (item.First d) ∷ more) = IsMiddleNext d more × (debts_in more ≡ []) × Tidy more
Tidy (todo.Step (item.Middle d) ∷ more) = IsLastNext d more × (debts_in more ≡ []) × Tidy more
Tidy (todo.Step step ∷ more) = OwesNothing more × Tidy more
Tidy (todo.Silent move ∷ more) = OwesNothing more × Tidy more

-- ---- a look before a claim

-- the page that a scan is at
abbrev pub page_in : (phase : ReplayPhase) → ℕ
page_in (phase.Idle until kept) = 0
page_in (phase.Taken inode) = 0
page_in (phase.Scanning scan) = next_page scan
page_in (phase.Flying inode pages until) = 0
page_in phase.Finished = 0

-- the page of the turn's flusher
abbrev pub page_of : (whose : Whose) (flushers : List Flusher) → ℕ
page_of (whose.Flusher flusher) flushers = page_in (get_or flushers flusher no_flusher).phase
page_of (whose.Task task) flushers = 0

-- the CPU's last step looked at the page, found this word, and the page can be claimed by it
pub record HasLooked (page word : ℕ) (last : List LastStep) : Type 0 where
  pub at : IsLookAt page last
  pub found : last_found last ≡ word
  pub claimable : is_claimable (bits_at word page) ≡ true

-- the sequence word was found; two loads of the limits are left
pub record HasFirst (set : Setting) (d : ℕ) (found : Found) (loading : List Loading) : Type 0 where
  pub first : found_of d loading ≡ finding.Sequence (set.coding.sequence_word found.sequence found.hard)
  pub hard : found.hard ≤ MAX_LIMIT

-- the sequence word was found, and after it a thresh word: the last load of the limits is left
pub record HasMiddle (set : Setting) (d : ℕ) (found : Found) (loading : List Loading) : Type 0 where
  pub thresh : ℕ
  pub both : found_of d loading ≡ finding.Words (set.coding.sequence_word found.sequence found.hard) thresh
  pub hard : found.hard ≤ MAX_LIMIT

-- A claim comes after a look at its page that found it claimable, a further load of limits after those before it.
abbrev pub Looked : (set : Setting) (page : ℕ) (found : Found) (todos : List Todo) (r : CpuRecord) → Type 0
Looked set page found [] r = Unit {0}
Looked set page found (todo.Step (item.Claim word) ∷ more) r = HasLooked page word r.last
Looked set page found (todo.Step (item.Middle d) ∷ more) r = HasFirst set d found r.loading
Looked set page found (todo.Step (item.Limits d) ∷ more) r = HasMiddle set d found r.loading
Looked set page found (todo.Step step ∷ more) r = Unit {0}
Looked set page found (todo.Silent move ∷ more) r = Unit {0}

-- A scan is at a page of its inode.
abbrev pub ScansInside : (trace : Trace) (phase : ReplayPhase) → Type 0
ScansInside trace (phase.Idle until kept) = Unit {0}
ScansInside trace (phase.Taken inode) = Unit {0}
ScansInside trace (phase.Scanning scan) = IsPageOf trace scan.inode (next_page scan)
ScansInside trace (phase.Flying inode pages until) = Unit {0}
ScansInside trace phase.Finished = Unit {0}

-- ---- pages that are held

-- how often a page stands in one flusher's batch; 0 where the flusher isn't the CPU's
abbrev pub batch_on : (trace : Trace) (cpu : ℕ) (flushers : List Flusher) (page flusher : ℕ) → ℕ
batch_on trace cpu flushers page flusher =
    cond (flusher_cpu trace flusher == cpu) (times_in page (get_or flushers flusher no_flusher).batch) 0

-- how often a page stands in the batches of all the CPU's flushers
abbrev pub batched : (trace : Trace) (cpu : ℕ) (flushers : List Flusher) (page : ℕ) → ℕ
batched trace cpu flushers page = total (length trace.flushers) (batch_on trace cpu flushers page)

-- ---- a check that is under way

-- a domain whose loads a check needs
abbrev pub IsNeeded : (group domain : ℕ) → Type 0
IsNeeded group domain = (domain ≡ 0) ⊎ ((domain ≡ group) × (0 < group))

-- Its loads are of the domains and of the context that it needs: of each domain the limits come before the count, the global
-- domain comes before the cgroup, and the context last. Then it is decided.
abbrev pub AreLoads : (context group : ℕ) (todos : List Todo) → Type 0
AreLoads context group [] = ⊥
AreLoads context group (todo.Step (item.First d) ∷ more) = AreLoads context group more
AreLoads context group (todo.Step (item.Middle d) ∷ more) = AreLoads context group more
AreLoads context group (todo.Step (item.Limits d) ∷ more) =
    IsNeeded group d × (list_any (is_count_of d) more ≡ true) × (list_any is_context_count more ≡ true)
    × (d ≡ 0 → 0 < group → list_any (is_limits_of group) more ≡ true) × AreLoads context group more
AreLoads context group (todo.Step (item.Count (Domain d)) ∷ more) =
    IsNeeded group d × (list_any is_context_count more ≡ true)
    × (d ≡ 0 → 0 < group → list_any (is_count_of group) more ≡ true) × AreLoads context group more
AreLoads context group (todo.Step (item.Count (Context k)) ∷ more) = (k ≡ context) × AreLoads context group more
AreLoads context group (todo.Step step ∷ more) = ⊥
AreLoads context group (todo.Silent silent.Decide ∷ more) = more ≡ todo.Silent silent.End ∷ []
AreLoads context group (todo.Silent move ∷ more) = ⊥

-- what isn't to be loaded any more was loaded: the newest comes first
abbrev pub one_reading : (ahead : Bool) (x : Counter) (count : Count) → List Reading
one_reading ahead x count = cond ahead [] (reading_of x count ∷ [])

-- the load of the cgroup's count, once it was made
abbrev pub group_readings : (group : ℕ) (turn : ReplayTurn) (todos : List Todo) → List Reading
group_readings zero turn todos = []
group_readings (suc cgroup) turn todos = one_reading (list_any (is_count_of (suc cgroup)) todos) (Domain (suc cgroup)) turn.cgroup.count

-- the loads that a check under way has made, the newest first, before older ones
abbrev pub turn_readings : (context group : ℕ) (turn : ReplayTurn) (todos : List Todo) (older : List Reading) → List Reading
turn_readings context group turn todos older =
    one_reading (list_any is_context_count todos) (Context context) turn.context
    ++ group_readings group turn todos
    ++ one_reading (list_any (is_count_of 0) todos) (Domain 0) turn.global.count
    ++ older

-- what a turn has loaded of a domain's limits
abbrev pub loaded_as : (d : ℕ) (load : Load) → DomainLimits
loaded_as d load = record { domain = d; version = load.version; limits = load.limits }

-- The limits that aren't to be loaded any more are those that the CPU holds.
pub record HoldsLoads (set : Setting) (turn : ReplayTurn) (todos : List Todo) (group : ℕ) (triples : List DomainLimits) : Type 0 where
  pub global : list_any (is_limits_of 0) todos ≡ false → held_of set 0 triples ≡ loaded_as 0 turn.global
  pub cgroup : 0 < group → list_any (is_limits_of group) todos ≡ false → held_of set group triples ≡ loaded_as group turn.cgroup

-- The task's check in the context is under way on the CPU.
pub record InCheck (trace : Trace) (set : Setting) (task context : ℕ) (c : Cpu) (r : CpuRecord) : Type 0 where
  pub writer : is_writer task context (writers_in trace) ≡ true
  pub loads : AreLoads context (group_of trace context) c.todo
  pub readings : AreAmong (turn_readings context (group_of trace context) c.turn c.todo (readings_told [] c.checks)) r.readings
  pub holds : HoldsLoads set c.turn c.todo (group_of trace context) r.triples
  pub behind : All (FoldsBehind r.folds) (turn_readings context (group_of trace context) c.turn c.todo [])
  pub keeps : (w : ℕ) → w < set.writers → (writer_at trace w).task ≡ task → (writer_at trace w).context ≡ context
      → KeepsLoads c.turn c.todo (group_of trace context) (record_of set w r.writers)

-- ---- own numbers and shared counts, by the lists that have them

-- a CPU's own number of a counter, by its lists of domains and contexts
abbrev pub own_in : (x : Counter) (own_domains own_contexts : List ℤ) → ℤ
own_in (Domain d) own_domains own_contexts = get_or own_domains d (pos 0)
own_in (Context k) own_domains own_contexts = get_or own_contexts k (pos 0)

-- the shared count of a counter, by the lists of domains and contexts
abbrev pub count_in : (x : Counter) (all_domains : List DomainState) (contexts : List Writeback) → Count
count_in (Domain d) all_domains contexts = (get_or all_domains d no_domain).count
count_in (Context k) all_domains contexts = (get_or contexts k no_context).count

-- ---- a CPU

-- what a CPU of the run and its record in the relation have in common
pub record FollowsCpu (trace : Trace) (set : Setting) (i : ℕ) (c : Cpu) (tasks : List ReplayTask) (flushers : List Flusher) (r : CpuRecord)
    (own : Counter → ℤ) : Type 0 where
  pub own_is : (x : Counter) → own x ≡ own_in x c.own_domains c.own_contexts
  pub events : r.events ≡ events_told [] c.entries
  pub folds : r.folds ≡ folds_told [] c.entries
  pub founds : r.found_dirty ≡ founds_told [] c.entries
  pub readings : AreAmong (readings_told [] c.checks) r.readings
  pub triples : HasTriples trace set c.checks c.held r.triples
  pub debts : bared r.debts ≡ debts_in c.todo
  pub tidy : Tidy c.todo
  pub looked : Looked set (page_of c.turn.whose flushers) c.turn.found c.todo r
  -- but for a scan that is about to close
  pub scanning : (f : ℕ) → IsFlusherOn trace i f → (c.turn.whose ≡ whose.Flusher f → list_any is_closing c.todo ≡ false)
      → ScansInside trace (get_or flushers f no_flusher).phase
  pub held : (p : ℕ) → times_in p r.held ≡ batched trace i flushers p
  pub paced : r.page_steps ≤ c.made
  -- a writer whose check isn't due has as many pages left
  pub left : (w : ℕ) → w < set.writers → set.seat w ≡ i
      → (writer_in (writer_at trace w).context (get_or tasks (writer_at trace w).task no_task)).due ≡ due.No
      → (record_of set w r.writers).left ≡ (writer_in (writer_at trace w).context (get_or tasks (writer_at trace w).task no_task)).left
  -- a check that is due is that of a writer
  pub checked : (task : ℕ) → IsTaskOn trace i task → (writer_of (get_or tasks task no_task)).due ≡ due.Check
      → is_writer task (get_or tasks task no_task).context (writers_in trace) ≡ true
  pub check : (task : ℕ) → c.turn.whose ≡ whose.Task task → list_any is_decide c.todo ≡ true
      → InCheck trace set task (get_or tasks task no_task).context c r

-- ---- the timer

-- what may come next of the three steps that publish limits: the first, the second, the last, or none
abbrev pub MayUnsealNext : (domain : ℕ) (todos : List TimerTodo) → Type 0
MayUnsealNext domain [] = Unit {0}
MayUnsealNext domain (timer_todo.Step (timer_item.Unseal d) ∷ more) = d ≡ domain
MayUnsealNext domain (timer_todo.Step (timer_item.Thresh d) ∷ more) = ⊥
MayUnsealNext domain (timer_todo.Step (timer_item.Publish d) ∷ more) = ⊥
MayUnsealNext domain (timer_todo.Step step ∷ more) = Unit {0}
MayUnsealNext domain (timer_todo.Silent move ∷ more) = Unit {0}

-- the second of the three steps that publish the domain's limits comes next
abbrev pub IsThreshNext : (domain : ℕ) (todos : List TimerTodo) → Type 0
IsThreshNext domain [] = ⊥
IsThreshNext domain (timer_todo.Step (timer_item.Thresh d) ∷ more) = d ≡ domain
IsThreshNext domain (timer_todo.Step step ∷ more) = ⊥
IsThreshNext domain (timer_todo.Silent move ∷ more) = ⊥

-- the last of the three steps that publish the domain's limits comes next
abbrev pub IsPublishedNext : (domain : ℕ) (todos : List TimerTodo) → Type 0
IsPublishedNext domain [] = ⊥
IsPublishedNext domain (timer_todo.Step (timer_item.Publish d) ∷ more) = d ≡ domain
IsPublishedNext domain (timer_todo.Step step ∷ more) = ⊥
IsPublishedNext domain (timer_todo.Silent move ∷ more) = ⊥

-- none of the three steps that publish limits comes next
abbrev pub PublishesLater : (todos : List TimerTodo) → Type 0
PublishesLater [] = Unit {0}
PublishesLater (timer_todo.Step (timer_item.Unseal d) ∷ more) = ⊥
PublishesLater (timer_todo.Step (timer_item.Thresh d) ∷ more) = ⊥
PublishesLater (timer_todo.Step (timer_item.Publish d) ∷ more) = ⊥
PublishesLater (timer_todo.Step step ∷ more) = Unit {0}
PublishesLater (timer_todo.Silent move ∷ more) = Unit {0}

-- A domain's limits are published next after its peak was raised, in three steps, and at no other time.
abbrev pub RaisesFirst : (todos : List TimerTodo) → Type 0
RaisesFirst [] = Unit {0}
RaisesFirst (timer_todo.Step (timer_item.Peak d) ∷ more) = MayUnsealNext d more × RaisesFirst more
RaisesFirst (timer_todo.Step (timer_item.Unseal d) ∷ more) = IsThreshNext d more × RaisesFirst more
RaisesFirst (timer_todo.Step (timer_item.Thresh d) ∷ more) = IsPublishedNext d more × RaisesFirst more
RaisesFirst (timer_todo.Step step ∷ more) = PublishesLater more × RaisesFirst more
RaisesFirst (timer_todo.Silent move ∷ more) = PublishesLater more × RaisesFirst more

-- The peak was raised last to the hard limit that is published next.
abbrev pub HasRaised : (todos : List TimerTodo) (hard : ℕ) (raised : List Raised) → Type 0
HasRaised [] hard raised = Unit {0}
HasRaised (timer_todo.Step (timer_item.Unseal d) ∷ more) hard raised = last_raised d raised ≡ Some hard
HasRaised (timer_todo.Step (timer_item.Thresh d) ∷ more) hard raised = last_raised d raised ≡ Some hard
HasRaised (timer_todo.Step (timer_item.Publish d) ∷ more) hard raised = last_raised d raised ≡ Some hard
HasRaised (timer_todo.Step step ∷ more) hard raised = Unit {0}
HasRaised (timer_todo.Silent move ∷ more) hard raised = Unit {0}

-- how far a publication of a domain's limits has come, by what the timer does next
abbrev pub stage_in : (d : ℕ) (todos : List TimerTodo) (limits : Limits) → Stage
stage_in d [] limits = stage.Sealed
stage_in d (timer_todo.Step (timer_item.Thresh e) ∷ more) limits = cond (d == e) stage.Unsealed stage.Sealed
stage_in d (timer_todo.Step (timer_item.Publish e) ∷ more) limits = cond (d == e) (stage.Drafted limits) stage.Sealed
stage_in d (timer_todo.Step step ∷ more) limits = stage.Sealed
stage_in d (timer_todo.Silent move ∷ more) limits = stage.Sealed

-- ---- the state

-- what of a state that of the relation follows
abbrev pub core : (s : State) → State
core s = record s {
  now = 0;
  pages = 0;
  ratelimit_pages = 0;
  queues = [];
  running = 0;
  working = 0;
  stopped = 0;
  spent = false;
  orders = [];
  rotation = None;
  timer = record s.timer { began = 0; global = 0; next = 0; period = 0 };
  steps = [];
  most = 0;
}

-- the peak of a domain and its sequence, which only rise
abbrev pub heights_of : (d : DomainState) → ℕ × ℕ
heights_of d = (d.peak, d.sequence)

-- what the run's state and that of the relation have in common
pub record FollowsIn (trace : Trace) (set : Setting) (s : State) (t : throttle.State) : Type 0 where
  pub book : t.book ≡ s.book
  pub marks : (n : ℕ) → n < length trace.inodes → t.marked n ≡ get_or s.marks n false
  pub versions : (x : Counter) → length (t.folds x) ≡ (count_in x s.domains s.contexts).version
  pub values : (x : Counter) → sum_of (t.folds x) ≡ (count_in x s.domains s.contexts).value
  pub published : (d : ℕ) → d < domains trace → t.published d ≡ (domain_of d s).limits
  pub peak : (d : ℕ) → d < domains trace → ◌≡◌ {A = ℕ × ℕ} (t.peak d, sequence_of t.timer d) (heights_of (domain_of d s))
  pub cpu : (i : ℕ) → i < trace.cpus → FollowsCpu trace set i (cpu_of i s) s.tasks s.flushers (t.cpu i) (λ x. t.own x i)
  pub raises : RaisesFirst s.timer.todo
  pub raised : HasRaised s.timer.todo s.timer.limits.hard t.timer.raised
  pub stages : (d : ℕ) → stage_of d t.timer.drafts ≡ stage_in d s.timer.todo s.timer.limits
  pub lines : LinesArePublished trace s.timer.entries t.timer.published

-- the relation's state follows the run's
abbrev pub Follows : (trace : Trace) (set : Setting) (s : State) (t : throttle.State) → Type 0
Follows trace set s t = FollowsIn trace set (core s) t

-- whether a step of the relation is a grant, which the run doesn't count as a step
abbrev pub is_grant : (step : Step) → Bool
is_grant (grant w pages) = true
is_grant other = false

-- A writer of a context of a strict device is granted pages where its kept reading of the context is small, by the CPUs' checks.
abbrev pub HasSmallReading : (trace : Trace) (set : Setting) (cpus : List Cpu) (w : ℕ) (t : throttle.State) → Type 0
HasSmallReading trace set cpus w t = is_strict trace (set.works_in w) ≡ true
    → fits (greatest_reading (part_used trace (set.works_in w) cpus) set.cpus) (throttle.writer_at set t.cpu w).context_reading ≡ true

-- One move: no step, or one of the relation, which is told where it isn't a grant.
pub data Moves (trace : Trace) (set : Setting) (before : List StepEntry) (s : State) (t : throttle.State) : Type 0 where
  silently : s.steps ≡ before → Follows trace set s t → Moves trace set before s t
  by : (step : Step) → is_grant step ≡ false → Allowed set step t → s.steps ≡ before ++ entries_of set step t → Follows trace set s (after set step t)
      → Moves trace set before s t
  grants : (w pages : ℕ) → Allowed set (grant w pages) t → s.steps ≡ before → HasSmallReading trace set s.cpus w t
      → Follows trace set s (after set (grant w pages) t) → Moves trace set before s t

-- These steps and grants lead to the state, which follows.
pub record Leads (trace : Trace) (set : Setting) (s : State) (steps : List Step) : Type 0 where
  pub allowed : AreAllowed set steps (throttle.opening set)
  pub told : tells set steps (throttle.opening set) ≡ s.steps
  pub follows : Follows trace set s (run set steps (throttle.opening set))
