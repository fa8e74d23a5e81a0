-- Where what is still to be cleaned waits: in a device's queue, in the list of a flusher that has noticed its inode, with a flusher
-- that has taken its inode or scans it, or with a CPU that owes a mark. So nothing is left where all tasks have ended and all flushers
-- are finished.
use Rattle.std.specs.Prelude.{◌≡◌, ℕ, ◌<◌, ◌≤◌, ◌⊎◌, Bool, true, false, ◌==◌, List, [], ◌∷◌, length, get_or, unwrap_or}
use Rattle.std.specs.List.{list_any}
use Rattle.wbt_trace.specs.declared.trace.Trace.{Trace}
use Rattle.wbt_book.specs.Ledger.{times_in}
use Rattle.wbt_expiry.specs.Waiting.{Each, has_inode}
use Rattle.wbt_expiry.specs.declared.due.Due.{Due}
use Rattle.wbt_replay_moves.specs.Definition.State.{State, no_waiting, cpu_of, flusher_of, waiting_of, queue_of}
use Rattle.wbt_rules.specs.declared.scan.Scan.{Scan}
use Rattle.wbt_rules.specs.Places.{IsAhead}
use Rattle.wbt_rules.specs.Things.{device_of, flusher_cpu, flusher_device}
use Rattle.wbt_replay_moves.specs.declared.state.Cpu.{Cpu}
use Rattle.wbt_replay_moves.specs.declared.state.Flusher.{Flusher}
use Rattle.wbt_replay_moves.specs.declared.state.ReplayPhase.{ReplayPhase}
use Rattle.wbt_replay_moves.specs.declared.state.ReplayPhase.TheVariants as phase
use Rattle.wbt_replay_moves.specs.declared.state.Whose.{Whose}
use Rattle.wbt_replay_moves.specs.declared.state.Whose.TheVariants as whose
use Rattle.wbt_replay_moves.specs.declared.todo.Silent.TheVariants as silent
use Rattle.wbt_replay_moves.specs.declared.todo.Step.TheVariants as step
use Rattle.wbt_replay_moves.specs.declared.todo.Todo.{Todo}
use Rattle.wbt_replay_moves.specs.declared.todo.Todo.TheVariants as todo
use Rattle.wbt_replay_order.specs.Definition.Order.{is_finished}
use Rattle.wbt_replay_order.specs.Kept.Facts.{IsPageOf}

-- ---- what a to-do list still does

-- It marks the inode.
abbrev pub is_mark_of : (inode : ℕ) (t : Todo) → Bool
is_mark_of inode (todo.Step (step.Mark n)) = inode == n
is_mark_of inode (todo.Step item) = false
is_mark_of inode (todo.Silent item) = false

-- A task may end.
abbrev pub is_end : (t : Todo) → Bool
is_end (todo.Silent silent.End) = true
is_end (todo.Silent item) = false
is_end (todo.Step item) = false

-- A scan's batch is handed over.
abbrev pub is_hand_over : (t : Todo) → Bool
is_hand_over (todo.Silent silent.HandOver) = true
is_hand_over (todo.Silent item) = false
is_hand_over (todo.Step item) = false

-- It neither writes, nor marks, nor hands over.
abbrev pub is_calm : (t : Todo) → Bool
is_calm (todo.Step step.Dirty) = false
is_calm (todo.Step (step.Mark inode)) = false
is_calm (todo.Step item) = true
is_calm (todo.Silent silent.HandOver) = false
is_calm (todo.Silent item) = true

-- the CPU is still to mark the inode
abbrev pub owes_mark : (inode : ℕ) (c : Cpu) → Bool
owes_mark inode c = list_any (is_mark_of inode) c.todo

-- The flusher's scan isn't handed over in the CPU's turn.
abbrev pub IsStillOpen : (flusher : ℕ) (c : Cpu) → Type 0
IsStillOpen flusher c = c.turn.whose ≡ whose.Flusher flusher → list_any is_hand_over c.todo ≡ false

-- A task's mark comes before its end, and a flusher's, which is of its device, before the hand over.
abbrev pub MarksBefore : (trace : Trace) (whose : Whose) (inode : ℕ) (more : List Todo) → Type 0
MarksBefore trace (whose.Task task) inode more = list_any is_end more ≡ true
MarksBefore trace (whose.Flusher flusher) inode more =
    (device_of trace inode ≡ flusher_device trace flusher) × (list_any is_hand_over more ≡ true)

-- likewise each item, where a write comes before the task's end
abbrev pub IsBefore : (trace : Trace) (whose : Whose) (t : Todo) (more : List Todo) → Type 0
IsBefore trace w (todo.Step (step.Mark inode)) more = MarksBefore trace w inode more
IsBefore trace w (todo.Step step.Dirty) more = list_any is_end more ≡ true
IsBefore trace w (todo.Step item) more = Unit {0}
IsBefore trace w (todo.Silent item) more = Unit {0}

-- and each item of a list
abbrev pub AreBefore : (trace : Trace) (whose : Whose) (todos : List Todo) → Type 0
AreBefore trace w [] = Unit {0}
AreBefore trace w (t ∷ more) = IsBefore trace w t more × AreBefore trace w more

-- ---- where an inode and a page wait

-- A marked inode waits in its device's queue, or in the list of a flusher, or a flusher has taken it and clears the mark next.
pub data IsTakeable (trace : Trace) (s : State) (inode : ℕ) : Type 0 where
  queued : 1 ≤ times_in inode (queue_of (device_of trace inode) s) → IsTakeable trace s inode
  listed : (flusher : ℕ) → flusher < length trace.flushers → has_inode inode (waiting_of flusher s).pairs ≡ true → IsTakeable trace s inode
  taken : (flusher : ℕ) → flusher < length trace.flushers → (flusher_of flusher s).phase ≡ phase.Taken inode → IsTakeable trace s inode

-- A dirty page's inode can be taken; or a scan is still to look at the page, or has noted that the inode is to be marked again;
-- or a CPU owes the mark.
pub data IsAwaited (trace : Trace) (s : State) (inode page : ℕ) : Type 0 where
  takeable : IsTakeable trace s inode → IsAwaited trace s inode page
  scanned : (flusher : ℕ) (scan : Scan) → flusher < length trace.flushers
      → (flusher_of flusher s).phase ≡ phase.Scanning scan → scan.inode ≡ inode → IsAhead scan page ⊎ (scan.noted ≡ true)
      → IsStillOpen flusher (cpu_of (flusher_cpu trace flusher) s) → IsAwaited trace s inode page
  owed : (cpu : ℕ) → cpu < trace.cpus → owes_mark inode (cpu_of cpu s) ≡ true → IsAwaited trace s inode page

-- A page under writeback is in a batch.
pub record IsHeld (trace : Trace) (s : State) (page : ℕ) : Type 0 where
  pub flusher : ℕ
  pub there : flusher < length trace.flushers
  pub some : 1 ≤ times_in page (flusher_of flusher s).batch

-- What a flusher is at is an inode of its device.
abbrev pub IsPlaced : (trace : Trace) (flusher : ℕ) (phase : ReplayPhase) → Type 0
IsPlaced trace flusher (phase.Idle until kept) = Unit {0}
IsPlaced trace flusher (phase.Taken inode) = device_of trace inode ≡ flusher_device trace flusher
IsPlaced trace flusher (phase.Scanning scan) = device_of trace scan.inode ≡ flusher_device trace flusher
IsPlaced trace flusher (phase.Flying inode pages until) = Unit {0}
IsPlaced trace flusher phase.Finished = Unit {0}

-- the list of a flusher
abbrev pub pairs_in : (f : Flusher) → List Due
pairs_in f = (unwrap_or f.wheel no_waiting).pairs

-- What waits in a flusher's list are inodes of its device.
abbrev pub AreListed : (trace : Trace) (flusher : ℕ) (pairs : List Due) → Type 0
AreListed trace flusher pairs = Each (λ pair. device_of trace pair.inode ≡ flusher_device trace flusher) pairs

-- A flusher of the device isn't finished.
pub record IsServed (trace : Trace) (s : State) (device : ℕ) : Type 0 where
  pub flusher : ℕ
  pub there : flusher < length trace.flushers
  pub ours : flusher_device trace flusher ≡ device
  pub works : is_finished (flusher_of flusher s).phase ≡ false

-- Each inode that is marked, each dirty page and each page under writeback waits somewhere, and somebody comes for it.
pub record Waiting (trace : Trace) (s : State) : Type 0 where
  pub marked : (n : ℕ) → n < length trace.inodes → get_or s.marks n true ≡ true → IsTakeable trace s n
  pub dirty : (n p : ℕ) → IsPageOf trace n p → (s.book p).dirty ≡ true → IsAwaited trace s n p
  pub flying : (p : ℕ) → (s.book p).writeback ≡ true → IsHeld trace s p
  pub turns : (i : ℕ) → i < trace.cpus → AreBefore trace (cpu_of i s).turn.whose (cpu_of i s).todo
  pub places : (f : ℕ) → f < length trace.flushers → IsPlaced trace f (flusher_of f s).phase
  pub lists : (f : ℕ) → f < length trace.flushers → AreListed trace f (waiting_of f s).pairs
  -- nothing waits in the list of a flusher that is finished
  pub emptied : (f : ℕ) → f < length trace.flushers → is_finished (flusher_of f s).phase ≡ true → (waiting_of f s).pairs ≡ []
  -- where a device's queue isn't empty, a flusher of the device isn't finished
  pub served : (d : ℕ) → d < length trace.devices → 1 ≤ length (queue_of d s) → IsServed trace s d
  -- while tasks run none is finished
  pub going : 1 ≤ s.running → (f : ℕ) → f < length trace.flushers → is_finished (flusher_of f s).phase ≡ false
