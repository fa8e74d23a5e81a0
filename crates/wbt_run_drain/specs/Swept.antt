-- What the sweep does between two drains: it looks at an inode, and has its device's flushers turned again.
use Rattle.std.specs.Prelude.{◌≡◌, ℕ, zero, suc, ◌<◌, ◌≤◌, ◌⊎◌, ◌==◌, if◌then◌else◌, List, [], ◌∷◌, ◌++◌, length, get_or, map, min}
use Rattle.wbt_book.specs.Ledger.{times_in}
use Rattle.wbt_grant.specs.declared.record.CpuRecord.{CpuRecord}
use Rattle.wbt_io.specs.Faults.{last_count}
use Rattle.wbt_journal.specs.Machine.{pages}
use Rattle.wbt_kit.specs.Kit.{AreSeatsOf, HasCpu}
use Rattle.wbt_kit.specs.declared.kit.Kit.{Kit}
use Rattle.wbt_kit.specs.declared.kit.Seats.{Seats}
use Rattle.wbt_queue.specs.Order.{HasPut}
use Rattle.wbt_queue.specs.Passes.{Held, Seats as Passes, known_of, size_of}
use Rattle.wbt_run_worker.specs.declared.side.CpuSide.{CpuSide}
use Rattle.wbt_run_worker.specs.declared.side.Post.{Post}
use Rattle.wbt_run_worker.specs.declared.side.Stand.TheVariants.{Open}
use Rattle.wbt_rules.specs.Things.{device_of}
use Rattle.wbt_run_steps.specs.Kinds.{Steps}
use Rattle.wbt_run_steps.specs.Records.{IsApart, record_of}
use Rattle.wbt_table.specs.Layout.{setting}
use Rattle.wbt_trace.specs.declared.trace.Trace.{Trace}
use Rattle.wbt_run_laws.specs.Grew.{Grew}
use Rattle.wbt_run_drain.specs.Standing.{IsCleanedIn}
use Rattle.wbt_run_drain.specs.Words.{IsLook}

-- ---- a look at an inode

-- what steps that no entry tells make of a CPU's record: they are steps more, it holds its pages still, and owes nothing that it didn't owe
pub record IsUntold (old new : CpuRecord) : Type 0 where
  pub grew : Grew [] old new
  pub made : min old.steps last_count ≤ new.steps
  pub held : new.held ≡ old.held
  pub debts : new.debts ≡ old.debts
  pub rescans : (page : ℕ) → 1 ≤ times_in page new.owed_rescans → 1 ≤ times_in page old.owed_rescans
  pub marks : (inode : ℕ) → 1 ≤ times_in inode new.owed_marks → 1 ≤ times_in inode old.owed_marks

-- such steps of one CPU, a look at most, and puts into queues: nothing else changed
pub record StepsUntold (cpu : ℕ) (kit : Kit) (old new : Seats) : Type 0 where
  pub seats_are : AreSeatsOf kit new
  pub has : HasCpu cpu (record_of cpu new.cpu.cpus) new
  pub apart : IsApart cpu old.cpu new.cpu
  pub steps : IsUntold (record_of cpu old.cpu.cpus) (record_of cpu new.cpu.cpus)
  pub kinds : Steps cpu (IsLook cpu) old new
  pub share : new.share ≡ old.share
  pub est : new.est ≡ old.est

-- the inode was put into the device's queue, or that was full at a moment
abbrev pub IsQueued : (kit : Kit) (device inode : ℕ) (old new : Seats) → Type 0
IsQueued kit device inode old new = HasPut (known_of device old.queue) inode (known_of device new.queue) ⊎ Held (size_of device kit.queues) (known_of device old.queue)

-- ---- what the passes put

-- The next number that was put into the device's queue is this inode, whatever was put after it; or that queue was full at a moment.
abbrev pub IsNextPut : (kit : Kit) (device inode : ℕ) (old new : Passes) → Type 0
IsNextPut kit device inode old new =
    ((more : List ℕ) × ((known_of device new).own.puts ≡ (known_of device old).own.puts ++ inode ∷ more)) ⊎ Held (size_of device kit.queues) (known_of device old)

-- so it was so many times, one after another
abbrev pub WasPutTimes : (times : ℕ) (kit : Kit) (device inode : ℕ) (old new : Passes) → Type 0
WasPutTimes zero kit device inode old new = new ≡ old
WasPutTimes (suc times) kit device inode old new = (mid : Passes) × WasPutTimes times kit device inode old mid × IsNextPut kit device inode mid new

-- the inode was put some times into its own device's queue
abbrev pub WasPut : (trace : Trace) (kit : Kit) (inode : ℕ) (old new : Passes) → Type 0
WasPut trace kit inode old new = (times : ℕ) × WasPutTimes times kit (device_of trace inode) inode old new

-- so were the inodes before one, in order
abbrev pub WerePut : (inodes : ℕ) (trace : Trace) (kit : Kit) (old new : Passes) → Type 0
WerePut zero trace kit old new = new ≡ old
WerePut (suc inode) trace kit old new = (mid : Passes) × WerePut inode trace kit old mid × WasPut trace kit inode mid new

-- so were the first inodes of the trace, and all where the sweep came to its end
pub record PutsInOrder (trace : Trace) (kit : Kit) (ended : Type 0) (old new : Passes) : Type 0 where
  pub inodes : ℕ
  pub within : inodes ≤ length trace.inodes
  pub were : WerePut inodes trace kit old new
  pub all : ended → inodes ≡ length trace.inodes

-- ---- an inode

-- each dirtying of each page of the inode was completed or absorbed
abbrev pub IsInodeCleaned : (trace : Trace) (kit : Kit) (inode : ℕ) (seats : Seats) → Type 0
IsInodeCleaned trace kit inode seats = (page : ℕ) → page < pages trace → (setting kit.throttle.layout).inode page ≡ inode → IsCleanedIn trace seats page

-- ---- flushers of a device

-- the device's flusher is turned again, another stands as it stood
abbrev pub reopened : {D : Type 0} (device : ℕ) (post : Post D) → Post D
reopened {D} device post = if post.flusher.plan.device == device then record post { stand = Open } else post

-- the device's flushers of a side are turned again, and nothing else of it changed
pub record IsReopened {D : Type 0} (device : ℕ) (old new : CpuSide D) : Type 0 where
  pub writers : new.writers ≡ old.writers
  pub posts : new.posts.items ≡ map (reopened device) old.posts.items
  pub log : new.log ≡ old.log
  pub end : new.end ≡ old.end

-- so are those of each CPU
pub record AreReopened {D : Type 0} (device : ℕ) (old new : List (CpuSide D)) : Type 0 where
  pub many : length new ≡ length old
  pub each : (cpu : ℕ) (other : CpuSide D) → cpu < length old → IsReopened device (get_or old cpu other) (get_or new cpu other)
