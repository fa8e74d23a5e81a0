-- The changes of the ordered run: what a move does, with the things that it is about. A move that can't be is no change.
pub mod Cpu
pub mod Flusher
pub mod Task
pub mod Timer
use Rattle.std.specs.Prelude.{ℕ, List}
use Rattle.wbt_counter.specs.declared.counter.Counter.{Counter}
use Rattle.wbt_estimate.specs.declared.estimate.Estimate.{Estimate}
use Rattle.wbt_expiry.specs.declared.due.Due.{Due}
use Rattle.wbt_flex.specs.declared.half.Half.{Half}
use Rattle.wbt_grant.specs.declared.who.StepKind.{StepKind}
use Rattle.wbt_journal.specs.declared.entry.CheckEntry.{CheckEntry}
use Rattle.wbt_replay_moves.specs.declared.state.ReplayWork.{ReplayWork}
use Rattle.wbt_rules.specs.declared.scan.Scan.{Scan}
use Rattle.wbt_replay_changes.specs.Change.Cpu.{CpuChange}
use Rattle.wbt_replay_changes.specs.Change.Task.{TaskChange}
use Rattle.wbt_replay_changes.specs.Change.Flusher.{FlusherChange}
use Rattle.wbt_replay_changes.specs.Change.Timer.{TimerChange}

-- what a move does, one after another: each is a change of one thing, or of things that no law parts
pub data Change : Type 0 where
  -- somebody makes a step of a kind, which changes no context's count and no peak
  stepped : (who : ℕ) (kind : StepKind) → Change
  -- a CPU, a task, a flusher or the timer changes alone
  of_cpu : (cpu : ℕ) (change : CpuChange) → Change
  of_task : (task : ℕ) (change : TaskChange) → Change
  of_flusher : (flusher : ℕ) (change : FlusherChange) → Change
  of_timer : (change : TimerChange) → Change
  -- a task writes a page that is dirty already, and these works are left
  rewrote : (cpu task page : ℕ) (works : List ReplayWork) → Change
  -- a task dirties a page of an inode, by a step that the context counts, and these works are left
  dirtied : (cpu task inode page : ℕ) (works : List ReplayWork) → Change
  -- an inode whose mark was clear is marked, and goes into its device's queue
  marked : (inode : ℕ) → Change
  -- a writer is checked
  checked : (cpu : ℕ) (check : CheckEntry) → Change
  -- a task ends
  ended : (cpu task : ℕ) → Change
  -- a CPU's own number is folded into the shared count
  folded : (cpu : ℕ) (counter : Counter) → Change
  -- a context gets its new estimate
  estimated : (cpu context : ℕ) (estimate : Estimate) → Change
  -- a flusher takes an inode from its device's queue, where these are left
  took : (flusher inode : ℕ) (left : List ℕ) → Change
  -- it takes a pair that waits, for its age or whether it is due or not; these are left
  took_due : (cpu flusher now : ℕ) (pair : Due) (left : List Due) → Change
  took_first : (cpu flusher : ℕ) (pair : Due) (left : List Due) → Change
  -- it takes an inode from the queue and notices it, or drops it where it waits already; these are left there
  noticed : (cpu flusher inode since : ℕ) (left : List ℕ) → Change
  dropped : (flusher : ℕ) (left : List ℕ) → Change
  -- it is finished
  finished : (flusher : ℕ) → Change
  -- it clears the mark of the scan's inode, and begins the scan
  unmarked : (flusher : ℕ) (scan : Scan) → Change
  -- it claims the scan's next page
  claimed : (cpu flusher : ℕ) (scan : Scan) → Change
  -- its batch flies until a moment
  flew : (cpu flusher inode pages until : ℕ) → Change
  -- a page of its batch is completed, by a step that the context counts; these are left
  completed : (cpu flusher context page : ℕ) (left : List ℕ) → Change
  -- its flight ends: the context has written so many pages more
  landed : (flusher context pages : ℕ) → Change
  -- a context's part and a domain get so many pages
  shared : (cpu domain context pages : ℕ) → Change
  -- the timer raises a domain's peak to a hard limit, by a step of its own
  raised : (domain hard : ℕ) → Change
  -- it makes a domain's sequence odd, and then even again with its limits published
  unsealed : (domain : ℕ) → Change
  published : (domain : ℕ) → Change
  -- a domain gets its events after so many periods
  renewed : (domain periods : ℕ) (events : Half) → Change
