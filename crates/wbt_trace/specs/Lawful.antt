-- What a lawful trace is: its things meet the names, ranges and limits of a trace, and nothing is missing.
use Rattle.std.specs.Prelude.{◌≡◌, ℕ, ◌+◌, ◌<◌, ◌≤◌, Bool, ◌==◌, List, [], ◌∷◌, length, Option, Some, None, IfSome, IsTrue, All}
use Rattle.std.specs.List.{list_any}
use Rattle.wbt_num.specs.declared.most.TheConstants.{MOST_ACTIONS, MOST_AVAIL_LINES, MOST_CAP, MOST_CGROUPS, MOST_CONTEXTS, MOST_CPUS, MOST_DEVICES, MOST_FLUSHERS, MOST_INODES, MOST_ORDER_LINES, MOST_PAGES, MOST_TASKS, MOST_WRITERS}
use Rattle.wbt_num.specs.declared.limits.Settings.{Settings}
use Rattle.wbt_trace.specs.Sofar.{least_shares, pages_in, inode_at}
use Rattle.wbt_trace.specs.WriterList.{with_writer}
use Rattle.wbt_trace.specs.declared.trace.Action.{Action}
use Rattle.wbt_trace.specs.declared.trace.Action.TheVariants.{Write, Rest}
use Rattle.wbt_trace.specs.declared.trace.Avail.{Avail}
use Rattle.wbt_trace.specs.declared.trace.Cgroup.{Cgroup}
use Rattle.wbt_trace.specs.declared.trace.Context.{Context}
use Rattle.wbt_trace.specs.declared.trace.Device.{Device}
use Rattle.wbt_trace.specs.declared.trace.FirstEstimate.{FirstEstimate}
use Rattle.wbt_trace.specs.declared.trace.FlusherLine.{FlusherLine}
use Rattle.wbt_trace.specs.declared.trace.Inode.{Inode}
use Rattle.wbt_trace.specs.declared.trace.Order.{Order}
use Rattle.wbt_trace.specs.declared.trace.Order.TheVariants.{Steps, Timer, Tick}
use Rattle.wbt_trace.specs.declared.trace.Pace.{Pace}
use Rattle.wbt_trace.specs.declared.trace.TaskLine.{TaskLine}
use Rattle.wbt_trace.specs.declared.trace.Trace.{Trace}
use Rattle.wbt_trace.specs.declared.writers.Writer.{Writer}
use Rattle.wbt_trace.specs.declared.ranges.TheConstants.{MOST_AVAIL_PAGES, MOST_COUNT, MOST_DEVICE_RATE, MOST_EXPIRE, MOST_PERCENT, MOST_FIRST_RATE, MOST_SETTING_BYTES}

-- percentages are at most 100, and bytes in range
pub record AreSettings (settings : Settings) : Type 0 where
  pub ratio : settings.ratio ≤ MOST_PERCENT
  pub bg_ratio : settings.bg_ratio ≤ MOST_PERCENT
  pub bytes : settings.bytes ≤ MOST_SETTING_BYTES
  pub bg_bytes : settings.bg_bytes ≤ MOST_SETTING_BYTES

-- the tick comes after the last one, or is 0 where it is the first
abbrev pub IsNext : (last : Option ℕ) (tick : ℕ) → Type 0
IsNext None tick = tick ≡ 0
IsNext (Some last) tick = last < tick

-- lines of available pages after one whose tick is the last
abbrev pub AreAvails : (last : Option ℕ) (avails : List Avail) → Type 0
AreAvails last [] = Unit {0}
AreAvails last (a ∷ more) = IsNext last a.from × (a.from ≤ MOST_COUNT) × (a.pages ≤ MOST_AVAIL_PAGES) × AreAvails (Some a.from) more

-- a scan ends with so many pages at the latest
abbrev pub IsChunk : (pages : ℕ) → Type 0
IsChunk pages = (1 ≤ pages) × (pages ≤ MOST_PAGES)

-- a device's rate, its shares and its chunk are in range
pub record IsDevice (device : Device) : Type 0 where
  pub rate : (1 ≤ device.rate) × (device.rate ≤ MOST_DEVICE_RATE)
  pub shares : (device.min ≤ device.max) × (device.max ≤ MOST_PERCENT)
  pub chunk : IfSome device.chunk IsChunk

-- devices in range, not too many, whose least shares are at most 100 percent together
pub record AreDevices (devices : List Device) : Type 0 where
  pub each : All IsDevice devices
  pub shares : least_shares devices ≤ MOST_PERCENT
  pub few : length devices ≤ MOST_DEVICES

-- a cgroup's file pages and headroom are in range
abbrev pub IsCgroup : (cgroup : Cgroup) → Type 0
IsCgroup cgroup = (cgroup.filepages ≤ MOST_AVAIL_PAGES) × (cgroup.headroom ≤ MOST_AVAIL_PAGES)

-- an inode is due after so many hundredths of a second
abbrev pub IsExpire : (centi : ℕ) → Type 0
IsExpire centi = (1 ≤ centi) × (centi ≤ MOST_EXPIRE)

-- a rate of a first estimate, in pages a second
abbrev pub IsFirstRate : (rate : ℕ) → Type 0
IsFirstRate rate = (1 ≤ rate) × (rate ≤ MOST_FIRST_RATE)

-- each rate of a first estimate is in range
pub record IsFirstEstimate (estimate : FirstEstimate) : Type 0 where
  pub bandwidth : IsFirstRate estimate.bandwidth
  pub average : IsFirstRate estimate.average
  pub ratelimit : IsFirstRate estimate.ratelimit

-- of so many devices and cgroups
abbrev pub IsContext : (devices cgroups : ℕ) (context : Context) → Type 0
IsContext devices cgroups context = (context.device < devices) × (context.domain ≤ cgroups) × IfSome context.expire IsExpire
    × IfSome context.estimate IsFirstEstimate

-- of so many contexts
abbrev pub IsInode : (contexts : ℕ) (inode : Inode) → Type 0
IsInode contexts inode = (inode.context < contexts) × (1 ≤ inode.pages)

-- The first page of each is the sum of the pages before it, from n on.
abbrev pub AreFirsts : (n : ℕ) (inodes : List Inode) → Type 0
AreFirsts n [] = Unit {0}
AreFirsts n (inode ∷ inodes) = (inode.first ≡ n) × AreFirsts (n + inode.pages) inodes

-- inodes in range, not too many, with all pages numbered in order
pub record AreInodes (contexts : ℕ) (inodes : List Inode) : Type 0 where
  pub each : All (IsInode contexts) inodes
  pub firsts : AreFirsts 0 inodes
  pub total : pages_in inodes ≤ MOST_PAGES
  pub few : length inodes ≤ MOST_INODES

-- of so many CPUs
abbrev pub IsTask : (cpus : ℕ) (task : TaskLine) → Type 0
IsTask cpus task = task.cpu < cpus

-- of so many devices and CPUs
abbrev pub IsFlusher : (devices cpus : ℕ) (flusher : FlusherLine) → Type 0
IsFlusher devices cpus flusher = (flusher.device < devices) × (flusher.cpu < cpus)

-- from 1 to the most ticks or steps
abbrev pub IsCount : (n : ℕ) → Type 0
IsCount n = (1 ≤ n) × (n ≤ MOST_COUNT)

-- a pace's pages and ticks are in range
pub record IsPace (pace : Pace) : Type 0 where
  pub pages : (1 ≤ pace.pages) × (pace.pages ≤ MOST_PAGES)
  pub ticks : IsCount pace.ticks

-- a task rests between its pages only as its line may say it
abbrev pub HasPace : (task : TaskLine) → Type 0
HasPace task = IfSome task.pace IsPace

-- of so many tasks, and these inodes: a write is of pages that the inode has
abbrev pub IsAction : (tasks : ℕ) (inodes : List Inode) (action : Action) → Type 0
IsAction tasks inodes (Write task inode from pages) = (task < tasks) × (inode < length inodes) × (1 ≤ pages) × (from + pages ≤ (inode_at inode inodes).pages)
IsAction tasks inodes (Rest task ticks) = (task < tasks) × IsCount ticks

-- the writers with those of the actions
abbrev pub writers_after : (writers : List Writer) (inodes : List Inode) (actions : List Action) → List Writer
writers_after writers inodes [] = writers
writers_after writers inodes (Write task inode from pages ∷ actions) =
    writers_after (with_writer task (inode_at inode inodes).context writers) inodes actions
writers_after writers inodes (Rest task ticks ∷ actions) = writers_after writers inodes actions

-- the distinct pairs of a task and the context of an inode that it writes
abbrev pub writers_of : (inodes : List Inode) (actions : List Action) → List Writer
writers_of inodes actions = writers_after [] inodes actions

-- an order line names one of so many CPUs, or the timer, and its steps or ticks are in range
abbrev pub IsOrder : (cpus : ℕ) (order : Order) → Type 0
IsOrder cpus (Steps cpu steps) = (cpu < cpus) × IsCount steps
IsOrder cpus (Timer steps) = IsCount steps
IsOrder cpus (Tick ticks) = IsCount ticks

-- Each thing is in range, names things that there are, and there are not too many.
pub record IsWithin (trace : Trace) : Type 0 where
  pub cpus : trace.cpus ≤ MOST_CPUS
  pub cap : (1 ≤ trace.cap) × (trace.cap ≤ MOST_CAP)
  pub settings : AreSettings trace.settings
  pub avail : AreAvails None trace.avail
  pub few_avail : length trace.avail ≤ MOST_AVAIL_LINES
  pub devices : AreDevices trace.devices
  pub cgroups : All IsCgroup trace.cgroups
  pub few_cgroups : length trace.cgroups ≤ MOST_CGROUPS
  pub contexts : All (IsContext (length trace.devices) (length trace.cgroups)) trace.contexts
  pub few_contexts : length trace.contexts ≤ MOST_CONTEXTS
  pub inodes : AreInodes (length trace.contexts) trace.inodes
  pub tasks : All (IsTask trace.cpus) trace.tasks
  pub few_tasks : length trace.tasks ≤ MOST_TASKS
  pub paces : All HasPace trace.tasks
  pub flushers : All (IsFlusher (length trace.devices) trace.cpus) trace.flushers
  pub few_flushers : length trace.flushers ≤ MOST_FLUSHERS
  pub actions : All (IsAction (length trace.tasks) trace.inodes) trace.actions
  pub few_actions : length trace.actions ≤ MOST_ACTIONS
  pub few_writers : length (writers_of trace.inodes trace.actions) ≤ MOST_WRITERS
  pub order : All (IsOrder trace.cpus) trace.order
  pub few_orders : length trace.order ≤ MOST_ORDER_LINES
  pub halt : IfSome trace.halt (λ steps. steps ≤ MOST_COUNT)

-- some flusher is the device's
abbrev pub has_flusher : (device : ℕ) (flushers : List FlusherLine) → Bool
has_flusher device flushers = list_any (λ flusher. flusher.device == device) flushers

-- There are CPUs and available pages, and each device has a flusher.
pub record IsWhole (trace : Trace) : Type 0 where
  pub cpus : 1 ≤ trace.cpus
  pub avail : 1 ≤ length trace.avail
  pub flushers : (device : ℕ) → device < length trace.devices → IsTrue (has_flusher device trace.flushers)

-- a trace that may be run: each thing is in range, and nothing is missing
pub record IsLawful (trace : Trace) : Type 0 where
  pub within : IsWithin trace
  pub whole : IsWhole trace
