-- What of a state's ranges is needed to follow the step relation.
use Rattle.std.specs.Prelude.{◌≡◌, ℕ, ◌<◌, ◌≤◌, true, List, [], ◌∷◌, length, get_or, All}
use Rattle.wbt_num.specs.Limits.{IsLawful}
use Rattle.wbt_trace.specs.WriterList.{is_writer}
use Rattle.wbt_trace.specs.declared.trace.Trace.{Trace}
use Rattle.wbt_grant.specs.Setting.{Setting}
use Rattle.wbt_journal.specs.Machine.{domains}
use Rattle.wbt_task.specs.declared.allowance.Due.TheVariants as due
use Rattle.wbt_replay_moves.specs.Definition.Check.{writer_in, writer_of}
use Rattle.wbt_replay_moves.specs.Definition.State.{State, cpu_of, task_of, flusher_of, domain_of}
use Rattle.wbt_rules.specs.Things.{inode_of, context_of}
use Rattle.wbt_replay_moves.specs.declared.state.ReplayPhase.{ReplayPhase}
use Rattle.wbt_replay_moves.specs.declared.state.ReplayPhase.TheVariants as phase
use Rattle.wbt_replay_moves.specs.declared.state.ReplayTask.{ReplayTask}
use Rattle.wbt_replay_moves.specs.declared.state.ReplayTurn.{ReplayTurn}
use Rattle.wbt_replay_moves.specs.declared.state.Whose.{Whose}
use Rattle.wbt_replay_moves.specs.declared.state.Whose.TheVariants as whose
use Rattle.wbt_replay_moves.specs.declared.state.ReplayWork.{ReplayWork}
use Rattle.wbt_replay_moves.specs.declared.state.ReplayWork.TheVariants as work
use Rattle.wbt_replay_moves.specs.declared.todo.Step.TheVariants as item
use Rattle.wbt_replay_moves.specs.declared.todo.Todo.{Todo}
use Rattle.wbt_replay_moves.specs.declared.todo.Todo.TheVariants as todo
use Rattle.wbt_replay_order.specs.Claims.Setting.{writers_in}
use Rattle.wbt_replay_order.specs.Kept.Facts.{IsPageOf, IsTaskOn, IsFlusherOn}

-- the turn is of a task or a flusher of the CPU
abbrev pub IsTurnOf : (trace : Trace) (cpu : ℕ) (whose : Whose) → Type 0
IsTurnOf trace cpu (whose.Task task) = IsTaskOn trace cpu task
IsTurnOf trace cpu (whose.Flusher flusher) = IsFlusherOn trace cpu flusher

-- The next page is one of an inode, and its context is one that the task writes in.
abbrev pub WritesInside : (trace : Trace) (task : ℕ) (works : List ReplayWork) → Type 0
WritesInside trace task [] = Unit {0}
WritesInside trace task (work.Rest ticks ∷ more) = Unit {0}
WritesInside trace task (work.Write inode page pages ∷ more) =
    IsPageOf trace inode page × (is_writer task (context_of trace inode) (writers_in trace) ≡ true)

-- a task's works and writers fit the trace
pub record IsWorker (trace : Trace) (task : ℕ) (t : ReplayTask) : Type 0 where
  pub works : WritesInside trace task t.works
  pub writers : length t.writers ≡ length trace.contexts
  pub some_left : (k : ℕ) → k < length trace.contexts → (writer_in k t).due ≡ due.No → 1 ≤ (writer_in k t).left
  pub due : (k : ℕ) → k < length trace.contexts → (writer_in k t).due ≡ due.Check → k ≡ t.context

-- the pages of a flight, the inode that was taken, and the place of a scan
abbrev pub IsInside : (trace : Trace) (batch : List ℕ) (phase : ReplayPhase) → Type 0
IsInside trace batch (phase.Idle until kept) = Unit {0}
IsInside trace batch (phase.Taken inode) = inode < length trace.inodes
IsInside trace batch (phase.Scanning scan) =
    (scan.inode < length trace.inodes) × (scan.first ≡ (inode_of trace scan.inode).first) × (scan.pages ≡ (inode_of trace scan.inode).pages)
    × (scan.start < scan.pages)
IsInside trace batch (phase.Flying inode pages until) = All (IsPageOf trace inode) batch
IsInside trace batch phase.Finished = Unit {0}

-- the limits that a turn has loaded are lawful
pub record HasLimits (turn : ReplayTurn) : Type 0 where
  pub global : IsLawful turn.global.limits
  pub cgroup : IsLawful turn.cgroup.limits

-- Each list of the state has one item for each thing of the trace, and what its items name is there. By the setting there is room for the page
-- steps and the sequences of as many steps as the run may make.
pub record Ranges (trace : Trace) (set : Setting) (s : State) : Type 0 where
  pub domains_are : length s.domains ≡ domains trace
  pub contexts : length s.contexts ≡ length trace.contexts
  pub marks : length s.marks ≡ length trace.inodes
  pub tasks : length s.tasks ≡ length trace.tasks
  pub flushers : length s.flushers ≡ length trace.flushers
  pub cpus : length s.cpus ≡ trace.cpus
  pub turn_is : (i : ℕ) → i < trace.cpus → 1 ≤ length (cpu_of i s).todo → IsTurnOf trace i (cpu_of i s).turn.whose
  pub made : (i : ℕ) → i < trace.cpus → (cpu_of i s).made ≤ length s.steps
  pub own_domains : (i : ℕ) → i < trace.cpus → length (cpu_of i s).own_domains ≡ domains trace
  pub own_contexts : (i : ℕ) → i < trace.cpus → length (cpu_of i s).own_contexts ≡ length trace.contexts
  pub held : (i : ℕ) → i < trace.cpus → length (cpu_of i s).held ≡ domains trace
  pub turn : (i : ℕ) → i < trace.cpus → HasLimits (cpu_of i s).turn
  -- a page is written where no check of the last page's writer is due
  pub writes : (i : ℕ) → i < trace.cpus → (task : ℕ) → (cpu_of i s).turn.whose ≡ whose.Task task → (more : List Todo)
      → (cpu_of i s).todo ≡ todo.Step item.Dirty ∷ more → (writer_of (task_of task s)).due ≡ due.No
  pub task : (k : ℕ) → k < length trace.tasks → IsWorker trace k (task_of k s)
  pub flusher : (f : ℕ) → f < length trace.flushers → IsInside trace (flusher_of f s).batch (flusher_of f s).phase
  pub places : (f : ℕ) → f < length trace.flushers → (n : ℕ) → n < length trace.inodes → get_or (flusher_of f s).places n 0 < (inode_of trace n).pages
  pub limits : (d : ℕ) → d < domains trace → IsLawful (domain_of d s).limits
  pub sequences : (d : ℕ) → d < domains trace → (domain_of d s).sequence ≤ s.most
  pub timer_limits : IsLawful s.timer.limits
  pub page_steps : s.most ≤ set.page_steps
  pub last_sequence : s.most < set.last_sequence
