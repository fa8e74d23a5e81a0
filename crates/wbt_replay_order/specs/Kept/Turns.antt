-- What a turn still has to do: what each item names is there, in which order items may stand, and what the task or the flusher is at.
use Rattle.std.specs.Prelude.{◌≡◌, ℕ, ◌<◌, ◌≤◌, Bool, true, false, ◌||◌, ◌==◌, unsigned_abs, List, [], ◌∷◌, length, get_or, None}
use Rattle.std.specs.List.{list_any}
use Rattle.wbt_counter.specs.declared.counter.Counter.{Counter}
use Rattle.wbt_counter.specs.declared.counter.Counter.TheVariants.{Domain, Context}
use Rattle.wbt_counter.specs.Counters.{is_same}
use Rattle.wbt_journal.specs.Machine.{domains}
use Rattle.wbt_task.specs.declared.allowance.Due.TheVariants as due
use Rattle.wbt_trace.specs.declared.trace.Trace.{Trace}
use Rattle.wbt_replay_moves.specs.Definition.Check.{writer_of}
use Rattle.wbt_replay_moves.specs.Definition.State.{no_task, no_flusher}
use Rattle.wbt_replay_moves.specs.Definition.Writer.{pause_in}
use Rattle.wbt_replay_moves.specs.declared.state.Flusher.{Flusher}
use Rattle.wbt_replay_moves.specs.declared.state.ReplayPhase.{ReplayPhase}
use Rattle.wbt_replay_moves.specs.declared.state.ReplayPhase.TheVariants as phase
use Rattle.wbt_replay_moves.specs.declared.state.ReplayTask.{ReplayTask}
use Rattle.wbt_replay_moves.specs.declared.state.Whose.{Whose}
use Rattle.wbt_replay_moves.specs.declared.state.Whose.TheVariants as whose
use Rattle.wbt_replay_moves.specs.declared.state.ReplayWork.{ReplayWork}
use Rattle.wbt_replay_moves.specs.declared.state.ReplayWork.TheVariants as work
use Rattle.wbt_replay_moves.specs.declared.todo.Silent.{Silent}
use Rattle.wbt_replay_moves.specs.declared.todo.Silent.TheVariants as silent
use Rattle.wbt_replay_moves.specs.declared.todo.Step.{Step}
use Rattle.wbt_replay_moves.specs.declared.todo.Step.TheVariants as step
use Rattle.wbt_replay_moves.specs.declared.todo.Todo.{Todo}
use Rattle.wbt_replay_moves.specs.declared.todo.Todo.TheVariants as todo

-- ---- what items name

-- the counter's domain or context is there
abbrev pub IsCounter : (trace : Trace) (counter : Counter) → Type 0
IsCounter trace (Domain domain) = domain < domains trace
IsCounter trace (Context context) = context < length trace.contexts

-- What an item names is there, whoever's turn it is.
abbrev pub StepFits : (trace : Trace) (item : Step) → Type 0
StepFits trace step.Dirty = Unit {0}
StepFits trace (step.Add counter change) = IsCounter trace counter × (unsigned_abs change ≡ 1)
StepFits trace (step.Fold counter) = IsCounter trace counter
StepFits trace (step.Clear counter) = IsCounter trace counter
StepFits trace (step.Mark inode) = inode < length trace.inodes
StepFits trace (step.First domain) = domain < domains trace
StepFits trace (step.Middle domain) = domain < domains trace
StepFits trace (step.Limits domain) = domain < domains trace
StepFits trace (step.Count counter) = IsCounter trace counter
StepFits trace step.Unmark = Unit {0}
StepFits trace step.Look = Unit {0}
StepFits trace (step.Claim word) = Unit {0}
StepFits trace step.Complete = Unit {0}

-- the context that a silent move names is there
abbrev pub SilentFits : (trace : Trace) (item : Silent) → Type 0
SilentFits trace (silent.Estimate context) = context < length trace.contexts
SilentFits trace silent.Decide = Unit {0}
SilentFits trace silent.End = Unit {0}
SilentFits trace (silent.Weigh context) = context < length trace.contexts
SilentFits trace silent.Test = Unit {0}
SilentFits trace silent.Close = Unit {0}
SilentFits trace silent.HandOver = Unit {0}
SilentFits trace silent.Land = Unit {0}

-- what an item of a turn names is there
abbrev pub ItemFits : (trace : Trace) (t : Todo) → Type 0
ItemFits trace (todo.Step item) = StepFits trace item
ItemFits trace (todo.Silent item) = SilentFits trace item

-- ---- in which order

-- Items that any may follow, and any may precede, come to 0 and 3; estimates and tests of contexts may repeat; of the items that change
-- what their task or flusher is at there is one, and after it a task may end.
abbrev pub floor_of : (t : Todo) → ℕ
floor_of (todo.Step step.Dirty) = 2
floor_of (todo.Step (step.Add counter change)) = 0
floor_of (todo.Step (step.Fold counter)) = 0
floor_of (todo.Step (step.Clear counter)) = 0
floor_of (todo.Step (step.Mark inode)) = 0
floor_of (todo.Step (step.First domain)) = 0
floor_of (todo.Step (step.Middle domain)) = 0
floor_of (todo.Step (step.Limits domain)) = 0
floor_of (todo.Step (step.Count counter)) = 0
floor_of (todo.Step step.Unmark) = 2
floor_of (todo.Step step.Look) = 2
floor_of (todo.Step (step.Claim word)) = 2
floor_of (todo.Step step.Complete) = 2
floor_of (todo.Silent silent.Decide) = 2
floor_of (todo.Silent silent.End) = 3
floor_of (todo.Silent (silent.Estimate context)) = 0
floor_of (todo.Silent (silent.Weigh context)) = 0
floor_of (todo.Silent silent.Test) = 2
floor_of (todo.Silent silent.Close) = 2
floor_of (todo.Silent silent.HandOver) = 2
floor_of (todo.Silent silent.Land) = 2

-- the rank of an item, by which the items of a turn are in order: 0 to 3
abbrev pub rank_of : (t : Todo) → ℕ
rank_of (todo.Step step.Dirty) = 1
rank_of (todo.Step (step.Add counter change)) = 3
rank_of (todo.Step (step.Fold counter)) = 3
rank_of (todo.Step (step.Clear counter)) = 3
rank_of (todo.Step (step.Mark inode)) = 3
rank_of (todo.Step (step.First domain)) = 3
rank_of (todo.Step (step.Middle domain)) = 3
rank_of (todo.Step (step.Limits domain)) = 3
rank_of (todo.Step (step.Count counter)) = 3
rank_of (todo.Step step.Unmark) = 1
rank_of (todo.Step step.Look) = 1
rank_of (todo.Step (step.Claim word)) = 1
rank_of (todo.Step step.Complete) = 1
rank_of (todo.Silent silent.Decide) = 1
rank_of (todo.Silent silent.End) = 2
rank_of (todo.Silent (silent.Estimate context)) = 0
rank_of (todo.Silent (silent.Weigh context)) = 0
rank_of (todo.Silent silent.Test) = 1
rank_of (todo.Silent silent.Close) = 1
rank_of (todo.Silent silent.HandOver) = 1
rank_of (todo.Silent silent.Land) = 1

-- All items come to so much.
abbrev pub AreFrom : (least : ℕ) (todos : List Todo) → Type 0
AreFrom least [] = Unit {0}
AreFrom least (t ∷ more) = (least ≤ rank_of t) × AreFrom least more

-- the items after each one come to no less than it asks for
abbrev pub AreInOrder : (todos : List Todo) → Type 0
AreInOrder [] = Unit {0}
AreInOrder (t ∷ more) = AreFrom (floor_of t) more × AreInOrder more

-- a fold or a clear
abbrev pub is_settling : (t : Todo) → Bool
is_settling (todo.Step (step.Fold counter)) = true
is_settling (todo.Step (step.Clear counter)) = true
is_settling (todo.Step step.Dirty) = false
is_settling (todo.Step (step.Add counter change)) = false
is_settling (todo.Step (step.Mark inode)) = false
is_settling (todo.Step (step.First domain)) = false
is_settling (todo.Step (step.Middle domain)) = false
is_settling (todo.Step (step.Limits domain)) = false
is_settling (todo.Step (step.Count counter)) = false
is_settling (todo.Step step.Unmark) = false
is_settling (todo.Step step.Look) = false
is_settling (todo.Step (step.Claim word)) = false
is_settling (todo.Step step.Complete) = false
is_settling (todo.Silent item) = false

-- none of the items is a fold or a clear
abbrev pub AreOthers : (todos : List Todo) → Type 0
AreOthers [] = Unit {0}
AreOthers (t ∷ more) = (is_settling t ≡ false) × AreOthers more

-- the counter's own number is cleared first, and no fold or clear follows
abbrev pub Clears : (x : Counter) (todos : List Todo) → Type 0
Clears x [] = ⊥
Clears x (t ∷ more) = (t ≡ todo.Step (step.Clear x)) × AreOthers more

-- A fold and its clear, or the clear alone, come first, if at all.
abbrev pub Settles : (todos : List Todo) → Type 0
Settles [] = Unit {0}
Settles (todo.Step (step.Fold x) ∷ more) = Clears x more
Settles (todo.Step (step.Clear x) ∷ more) = AreOthers more
Settles (todo.Step step.Dirty ∷ more) = AreOthers more
Settles (todo.Step (step.Add counter change) ∷ more) = AreOthers more
Settles (todo.Step (step.Mark inode) ∷ more) = AreOthers more
Settles (todo.Step (step.First domain) ∷ more) = AreOthers more
Settles (todo.Step (step.Middle domain) ∷ more) = AreOthers more
Settles (todo.Step (step.Limits domain) ∷ more) = AreOthers more
Settles (todo.Step (step.Count counter) ∷ more) = AreOthers more
Settles (todo.Step step.Unmark ∷ more) = AreOthers more
Settles (todo.Step step.Look ∷ more) = AreOthers more
Settles (todo.Step (step.Claim word) ∷ more) = AreOthers more
Settles (todo.Step step.Complete ∷ more) = AreOthers more
Settles (todo.Silent item ∷ more) = AreOthers more

-- the counter's own number is folded or cleared next
abbrev pub settles_step : (x : Counter) (item : Step) → Bool
settles_step x (step.Fold y) = is_same x y
settles_step x (step.Clear y) = is_same x y
settles_step x step.Dirty = false
settles_step x (step.Add counter change) = false
settles_step x (step.Mark inode) = false
settles_step x (step.First domain) = false
settles_step x (step.Middle domain) = false
settles_step x (step.Limits domain) = false
settles_step x (step.Count counter) = false
settles_step x step.Unmark = false
settles_step x step.Look = false
settles_step x (step.Claim word) = false
settles_step x step.Complete = false

-- whether the counter's own number is folded or cleared next
abbrev pub settles_next : (x : Counter) (todos : List Todo) → Bool
settles_next x [] = false
settles_next x (todo.Step item ∷ more) = settles_step x item
settles_next x (todo.Silent item ∷ more) = false

-- ---- what the task is at

-- the task's next work is a write
abbrev pub WritesNext : (works : List ReplayWork) → Type 0
WritesNext [] = ⊥
WritesNext (work.Rest ticks ∷ more) = ⊥
WritesNext (work.Write inode page pages ∷ more) = Unit {0}

-- the step is one that the task is at: it dirties a page only before a write, with no check due and no rest for its pace
abbrev pub TaskStepAgrees : (t : ReplayTask) (item : Step) → Type 0
TaskStepAgrees t step.Dirty = WritesNext t.works × ((writer_of t).due ≡ due.No) × (pause_in t ≡ None)
TaskStepAgrees t (step.Add counter change) = Unit {0}
TaskStepAgrees t (step.Fold counter) = Unit {0}
TaskStepAgrees t (step.Clear counter) = Unit {0}
TaskStepAgrees t (step.Mark inode) = Unit {0}
TaskStepAgrees t (step.First domain) = Unit {0}
TaskStepAgrees t (step.Middle domain) = Unit {0}
TaskStepAgrees t (step.Limits domain) = Unit {0}
TaskStepAgrees t (step.Count counter) = Unit {0}
TaskStepAgrees t step.Unmark = ⊥
TaskStepAgrees t step.Look = ⊥
TaskStepAgrees t (step.Claim word) = ⊥
TaskStepAgrees t step.Complete = ⊥

-- the item is one that the task is at
abbrev pub TaskAgrees : (t : ReplayTask) (item : Todo) → Type 0
TaskAgrees t (todo.Step item) = TaskStepAgrees t item
TaskAgrees t (todo.Silent silent.Decide) = (writer_of t).due ≡ due.Check
TaskAgrees t (todo.Silent silent.End) = t.ended ≡ false
TaskAgrees t (todo.Silent (silent.Estimate context)) = ⊥
TaskAgrees t (todo.Silent (silent.Weigh context)) = ⊥
TaskAgrees t (todo.Silent silent.Test) = ⊥
TaskAgrees t (todo.Silent silent.Close) = ⊥
TaskAgrees t (todo.Silent silent.HandOver) = ⊥
TaskAgrees t (todo.Silent silent.Land) = ⊥

-- ---- what the flusher is at

-- the flusher is idle
abbrev pub IsIdle : (phase : ReplayPhase) → Type 0
IsIdle (phase.Idle until kept) = Unit {0}
IsIdle (phase.Taken inode) = ⊥
IsIdle (phase.Scanning scan) = ⊥
IsIdle (phase.Flying inode pages until) = ⊥
IsIdle phase.Finished = ⊥

-- the flusher has taken an inode
abbrev pub IsTaken : (phase : ReplayPhase) → Type 0
IsTaken (phase.Idle until kept) = ⊥
IsTaken (phase.Taken inode) = Unit {0}
IsTaken (phase.Scanning scan) = ⊥
IsTaken (phase.Flying inode pages until) = ⊥
IsTaken phase.Finished = ⊥

-- the flusher scans
abbrev pub IsScanning : (phase : ReplayPhase) → Type 0
IsScanning (phase.Idle until kept) = ⊥
IsScanning (phase.Taken inode) = ⊥
IsScanning (phase.Scanning scan) = Unit {0}
IsScanning (phase.Flying inode pages until) = ⊥
IsScanning phase.Finished = ⊥

-- the flusher's pages are with its disk
abbrev pub IsFlying : (phase : ReplayPhase) → Type 0
IsFlying (phase.Idle until kept) = ⊥
IsFlying (phase.Taken inode) = ⊥
IsFlying (phase.Scanning scan) = ⊥
IsFlying (phase.Flying inode pages until) = Unit {0}
IsFlying phase.Finished = ⊥

-- A scan comes to a page of its inode next, and has room for it; a flight has a page to complete.
abbrev pub IsOpenAt : (trace : Trace) (batch : List ℕ) (phase : ReplayPhase) → Type 0
IsOpenAt trace batch (phase.Idle until kept) = Unit {0}
IsOpenAt trace batch (phase.Taken inode) = Unit {0}
IsOpenAt trace batch (phase.Scanning scan) = (scan.passed < scan.pages) × (length batch < scan.quota)
IsOpenAt trace batch (phase.Flying inode pages until) = 1 ≤ length batch
IsOpenAt trace batch phase.Finished = Unit {0}

-- the flusher's scan or flight isn't over
abbrev pub IsOpen : (trace : Trace) (f : Flusher) → Type 0
IsOpen trace f = IsOpenAt trace f.batch f.phase

-- the step is one that the flusher's phase allows
abbrev pub FlusherStepAgrees : (trace : Trace) (f : Flusher) (item : Step) → Type 0
FlusherStepAgrees trace f step.Dirty = ⊥
FlusherStepAgrees trace f (step.Add counter change) = Unit {0}
FlusherStepAgrees trace f (step.Fold counter) = Unit {0}
FlusherStepAgrees trace f (step.Clear counter) = Unit {0}
FlusherStepAgrees trace f (step.Mark inode) = Unit {0}
FlusherStepAgrees trace f (step.First domain) = Unit {0}
FlusherStepAgrees trace f (step.Middle domain) = Unit {0}
FlusherStepAgrees trace f (step.Limits domain) = Unit {0}
FlusherStepAgrees trace f (step.Count counter) = Unit {0}
FlusherStepAgrees trace f step.Unmark = IsTaken f.phase
FlusherStepAgrees trace f step.Look = IsScanning f.phase × IsOpen trace f
FlusherStepAgrees trace f (step.Claim word) = IsScanning f.phase × IsOpen trace f
FlusherStepAgrees trace f step.Complete = IsFlying f.phase × IsOpen trace f

-- the context is one whose estimates are updated
abbrev pub is_measured : (context : ℕ) (measures : List ℕ) → Bool
is_measured context measures = list_any (λ k. k == context) measures

-- the item is one that the flusher is at
abbrev pub FlusherAgrees : (trace : Trace) (f : Flusher) (item : Todo) → Type 0
FlusherAgrees trace f (todo.Step item) = FlusherStepAgrees trace f item
FlusherAgrees trace f (todo.Silent silent.Decide) = ⊥
FlusherAgrees trace f (todo.Silent silent.End) = ⊥
FlusherAgrees trace f (todo.Silent (silent.Estimate context)) = IsIdle f.phase × (is_measured context f.measures ≡ true)
FlusherAgrees trace f (todo.Silent (silent.Weigh context)) = IsIdle f.phase
FlusherAgrees trace f (todo.Silent silent.Test) = IsIdle f.phase
FlusherAgrees trace f (todo.Silent silent.Close) = IsScanning f.phase
FlusherAgrees trace f (todo.Silent silent.HandOver) = IsScanning f.phase
FlusherAgrees trace f (todo.Silent silent.Land) = IsFlying f.phase

-- the item is one that the turn's task or flusher is at
abbrev pub Agrees : (trace : Trace) (tasks : List ReplayTask) (flushers : List Flusher) (whose : Whose) (item : Todo) → Type 0
Agrees trace tasks flushers (whose.Task task) item = TaskAgrees (get_or tasks task no_task) item
Agrees trace tasks flushers (whose.Flusher flusher) item = FlusherAgrees trace (get_or flushers flusher no_flusher) item

-- The scan or the flight ends in this turn.
abbrev pub closes : (t : Todo) → Bool
closes (todo.Step item) = false
closes (todo.Silent silent.Decide) = false
closes (todo.Silent silent.End) = false
closes (todo.Silent (silent.Estimate context)) = false
closes (todo.Silent (silent.Weigh context)) = false
closes (todo.Silent silent.Test) = false
closes (todo.Silent silent.Close) = true
closes (todo.Silent silent.HandOver) = true
closes (todo.Silent silent.Land) = true

-- the scan or the flight ends in the rest of this turn
abbrev pub closes_in : (todos : List Todo) → Bool
closes_in [] = false
closes_in (t ∷ more) = closes t || closes_in more
