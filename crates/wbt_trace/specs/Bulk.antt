-- The trace that a bulk run runs: two disks, four CPUs, and four tasks that each write all pages of an inode of their own.
use Rattle.std.specs.Prelude.{ℕ, ◌+◌, ◌/◌, ◌%◌, nat_lt, if◌then◌else◌, List, [], ◌∷◌, None, false, true}
use Rattle.wbt_num.specs.declared.most.TheConstants.{MOST_CAP}
use Rattle.wbt_trace.specs.declared.bulk.TheConstants.{BULK_AVAIL}
use Rattle.wbt_trace.specs.declared.ranges.TheConstants.{DEFAULT_BACKGROUND_RATIO, DEFAULT_RATIO, MOST_DEVICE_RATE, MOST_PERCENT}
use Rattle.wbt_trace.specs.declared.trace.Action.{Action}
use Rattle.wbt_trace.specs.declared.trace.Action.TheVariants.{Write}
use Rattle.wbt_trace.specs.declared.trace.Avail.{Avail}
use Rattle.wbt_trace.specs.declared.trace.Context.{Context}
use Rattle.wbt_trace.specs.declared.trace.Device.{Device}
use Rattle.wbt_trace.specs.declared.trace.FlusherLine.{FlusherLine}
use Rattle.wbt_trace.specs.declared.trace.Inode.{Inode}
use Rattle.wbt_trace.specs.declared.trace.TaskLine.{TaskLine}
use Rattle.wbt_trace.specs.declared.trace.Trace.{Trace}

-- the pages of the i-th of four inodes that have n pages together: a fourth, and one of those that are over
abbrev pub pages_of : (n i : ℕ) → ℕ
pages_of n i = n / 4 + (if nat_lt i (n % 4) then 1 else 0)

-- a disk without a least share, as fast as one may be
abbrev pub disk : Device
disk = record { rate = MOST_DEVICE_RATE; min = 0; max = MOST_PERCENT; strict = false; chunk = None; cyclic = true }

-- each begins where the one before ends, and they take turns on the two disks
abbrev pub bulk_inodes : (n : ℕ) → List Inode
bulk_inodes n =
    record { context = 0; first = 0; pages = pages_of n 0 }
    ∷ record { context = 1; first = pages_of n 0; pages = pages_of n 1 }
    ∷ record { context = 0; first = pages_of n 0 + pages_of n 1; pages = pages_of n 2 }
    ∷ record { context = 1; first = pages_of n 0 + pages_of n 1 + pages_of n 2; pages = pages_of n 3 }
    ∷ []

-- what the i-th task does: it writes all pages of the i-th inode
abbrev pub bulk_write : (n i : ℕ) → Action
bulk_write n i = Write i i 0 (pages_of n i)

-- what all four tasks do
abbrev pub bulk_writes : (n : ℕ) → List Action
bulk_writes n = bulk_write n 0 ∷ bulk_write n 1 ∷ bulk_write n 2 ∷ bulk_write n 3 ∷ []

-- so many available pages from the first tick on
abbrev pub bulk_avail : List Avail
bulk_avail = record { from = 0; pages = BULK_AVAIL } ∷ []

-- one context on each disk, without a cgroup
abbrev pub bulk_contexts : List Context
bulk_contexts = record { device = 0; domain = 0; expire = None; estimate = None } ∷ record { device = 1; domain = 0; expire = None; estimate = None } ∷ []

-- two tasks on each of two CPUs
abbrev pub bulk_tasks : List TaskLine
bulk_tasks = record { cpu = 0; pace = None } ∷ record { cpu = 0; pace = None } ∷ record { cpu = 1; pace = None } ∷ record { cpu = 1; pace = None } ∷ []

-- each disk's flusher on a CPU of its own
abbrev pub bulk_flushers : List FlusherLine
bulk_flushers = record { device = 0; cpu = 2 } ∷ record { device = 1; cpu = 3 } ∷ []

-- the trace of a bulk run of n pages
abbrev pub bulk_trace : (n : ℕ) → Trace
bulk_trace n = record {
  cpus = 4;
  cap = MOST_CAP;
  settings = record { ratio = DEFAULT_RATIO; bg_ratio = DEFAULT_BACKGROUND_RATIO; bytes = 0; bg_bytes = 0 };
  avail = bulk_avail;
  devices = disk ∷ disk ∷ [];
  cgroups = [];
  contexts = bulk_contexts;
  inodes = bulk_inodes n;
  tasks = bulk_tasks;
  flushers = bulk_flushers;
  actions = bulk_writes n;
  order = [];
  halt = None;
}
