-- What is known of a CPU's turn where it makes a move that the journal tells, or ends a task.
use Rattle.std.proofs.Common.{◌≡◌, ℕ, ◌^◌, ◌<◌, true, false, List, ◌∷◌, length, All, ◌≤◌, is_some}
use Rattle.wbt_replay_order.proofs.Common.{Decision, Trace, emptied, rests_last, Scan, check_of, writer_of, State, cpu_of, task_of, flusher_of, waiting_of, writeback_of, counted_local, has_nothing, Cpu, ReplayWork, Todo, IsPageOf, IsFlusherOn, IsTaskOn, WorkFits, rests_at_end, is_measured, with_pair, has_inode, WaitMove, notices, ages, takes_first, due_after, device_of, flusher_device, Entry, Whose}
use Rattle.wbt_journal.specs.Checks.{IsInRange}
use Rattle.wbt_rules.specs.Flusher.{IsWithinChunk, chunk_at}
use Rattle.wbt_task.specs.declared.allowance.Due.TheVariants as due
use Rattle.wbt_replay_moves.specs.declared.state.ReplayPhase.TheVariants as phase
use Rattle.wbt_replay_moves.specs.declared.state.ReplayWork.TheVariants as work
use Rattle.wbt_replay_moves.specs.declared.state.Whose.TheVariants as whose
use Rattle.wbt_replay_order.specs.Kept.Sound.{IsWriteOf}
use Rattle.wbt_replay_points.proofs.Lawful.Same.{log_of, phase_at}
use Rattle.wbt_expiry.specs.declared.due.Due.{Due}
use Rattle.wbt_expiry.specs.Waiting.{Waiting as Wheel}
use Rattle.wbt_journal.specs.declared.entry.Entry.TheVariants as entry

-- the first item of a task's turn is taken, which the CPU changes to this for
pub record Takes (trace : Trace) (cpu task : ℕ) (item : Todo) (c : Cpu) (s : State) : Type 0 where
  pub there : cpu < length s.cpus
  pub on : IsTaskOn trace cpu task
  pub turn : (cpu_of cpu s).turn.whose ≡ whose.Task task
  pub told : log_of c ≡ log_of (cpu_of cpu s)
  pub local : c.local ≡ (cpu_of cpu s).local
  pub whose : c.turn.whose ≡ (cpu_of cpu s).turn.whose
  pub list : (cpu_of cpu s).todo ≡ item ∷ c.todo

-- a task of the CPU writes its next page, in its turn
pub record WritesNow (trace : Trace) (cpu task inode page pages : ℕ) (works : List ReplayWork) (s : State) : Type 0 where
  pub there : cpu < length s.cpus
  pub on : IsTaskOn trace cpu task
  pub works_are : (task_of task s).works ≡ work.Write inode page pages ∷ works
  pub fits : IsWriteOf trace task inode page pages
  pub free : (writer_of (task_of task s)).due ≡ due.No

-- it decides a check, on numbers in range, whatever it decides
pub record DecidesNow (trace : Trace) (cpu task : ℕ) (s : State) : Type 0 where
  pub there : cpu < length s.cpus
  pub on : IsTaskOn trace cpu task
  pub is_due : (writer_of (task_of task s)).due ≡ due.Check
  pub context_there : (task_of task s).context < length trace.contexts
  pub in_range : (decision : Decision)
      → IsInRange (check_of trace task (task_of task s).context (cpu_of cpu s).turn decision s) (writeback_of (task_of task s).context s).estimate (writer_of (task_of task s)).task

-- it has more to do
pub record HasMore (trace : Trace) (task : ℕ) (s : State) : Type 0 where
  pub not_ended : (task_of task s).ended ≡ false
  pub some : has_nothing (task_of task s).works (writer_of (task_of task s)).due ≡ false
  pub works : All (WorkFits trace task) (task_of task s).works
  pub last : rests_last trace task ≡ false → rests_at_end false (task_of task s).works ≡ false

-- it ends
pub record EndsNow (trace : Trace) (cpu task : ℕ) (s : State) : Type 0 where
  pub there : cpu < length s.cpus
  pub on : IsTaskOn trace cpu task
  pub not_ended : (task_of task s).ended ≡ false
  pub nothing : has_nothing (task_of task s).works (writer_of (task_of task s)).due ≡ true

-- a flusher of the CPU scans
pub record ScansNow (trace : Trace) (cpu f : ℕ) (scan : Scan) (s : State) : Type 0 where
  pub there : cpu < length s.cpus
  pub on : IsFlusherOn trace cpu f
  pub known : f < length s.flushers
  pub at : (flusher_of f s).phase ≡ phase.Scanning scan
  -- its batch has no more pages than the line of its device says
  pub within : IsWithinChunk (chunk_at trace f) (length (flusher_of f s).batch)

-- it completes the next page of its flight
pub record CompletesNow (trace : Trace) (cpu f inode page : ℕ) (pages : List ℕ) (s : State) : Type 0 where
  pub there : cpu < length s.cpus
  pub on : IsFlusherOn trace cpu f
  pub known : f < length s.flushers
  pub at : phase_at (flusher_of f s).batch (flusher_of f s).phase ≡ emptied (page ∷ pages)
  pub flies : (n until : ℕ) × ((flusher_of f s).phase ≡ phase.Flying inode n until)
  pub page_is : IsPageOf trace inode page

-- it updates the estimate of a context
pub record EstimatesNow (trace : Trace) (cpu f context : ℕ) (s : State) : Type 0 where
  pub there : cpu < length s.cpus
  pub on : IsFlusherOn trace cpu f
  pub context_there : context < length trace.contexts
  pub turn : (cpu_of cpu s).turn.whose ≡ whose.Flusher f
  pub measured : is_measured context (flusher_of f s).measures ≡ true

-- the CPU where its task has written a page afresh
abbrev pub counted_cpu : (cpu task context : ℕ) (s : State) → Cpu
counted_cpu cpu task context s = record (cpu_of cpu s) { local = counted_local s.ratelimit_pages context (cpu_of cpu s).local (task_of task s) }

-- ---- a flusher's list

-- the entry of a move of a flusher's list, and what it tells
abbrev pub entry_of : (f : ℕ) (move : WaitMove) → Entry
entry_of f (notices inode since) = entry.Noticed f inode since
entry_of f (ages inode moment now) = entry.Aged f inode moment now
entry_of f (takes_first inode) = entry.Taken f inode

-- what a move makes of the list
abbrev pub Becomes : (trace : Trace) (f : ℕ) (move : WaitMove) (old new : List Due) → Type 0
Becomes trace f (notices inode since) old new =
    (inode < length trace.inodes) × (device_of trace inode ≡ flusher_device trace f) × (since < 2 ^ 62) × (has_inode inode old ≡ false)
    × (new ≡ with_pair (record { due = due_after trace inode since; inode = inode }) old)
Becomes trace f (ages inode moment now) old new = (old ≡ (record { due = moment; inode = inode }) ∷ new) × (moment ≤ now)
Becomes trace f (takes_first inode) old new = (moment : ℕ) × (old ≡ (record { due = moment; inode = inode }) ∷ new)

-- a flusher of the CPU has a list, which becomes this one
pub record ListsNow (trace : Trace) (cpu f : ℕ) (move : WaitMove) (list : Wheel) (s : State) : Type 0 where
  pub there : cpu < length s.cpus
  pub on : IsFlusherOn trace cpu f
  pub known : f < length s.flushers
  pub some : is_some (flusher_of f s).wheel ≡ true
  pub becomes : Becomes trace f move (waiting_of f s).pairs list.pairs

-- a flusher whose turn begins is one of the CPU
abbrev pub Starts : (trace : Trace) (cpu : ℕ) (w : Whose) (s : State) → Type 0
Starts trace cpu (whose.Task task) s = Unit {0}
Starts trace cpu (whose.Flusher f) s = (cpu < length s.cpus) × IsFlusherOn trace cpu f × (f < length s.flushers)
