-- The trace so far: what the lines up to here have said.
use Rattle.std.specs.Prelude.{ℕ, true, false, List, [], ◌∷◌, sum_by, Option, Some, None, unwrap_or, slice_index_or, slice_set}
use Rattle.wbt_num.specs.declared.most.TheConstants.{MOST_CAP}
use Rattle.wbt_trace.specs.declared.trace.Action.{Action}
use Rattle.wbt_trace.specs.declared.trace.Avail.{Avail}
use Rattle.wbt_trace.specs.declared.trace.Cgroup.{Cgroup}
use Rattle.wbt_trace.specs.declared.trace.Context.{Context}
use Rattle.wbt_trace.specs.declared.trace.Device.{Device}
use Rattle.wbt_trace.specs.declared.trace.FirstEstimate.{FirstEstimate}
use Rattle.wbt_trace.specs.declared.trace.FlusherLine.{FlusherLine}
use Rattle.wbt_trace.specs.declared.trace.Inode.{Inode}
use Rattle.wbt_trace.specs.declared.trace.Order.{Order}
use Rattle.wbt_trace.specs.declared.trace.Pace.{Pace}
use Rattle.wbt_trace.specs.declared.trace.TaskLine.{TaskLine}
use Rattle.wbt_trace.specs.declared.trace.Trace.{Trace}
use Rattle.wbt_trace.specs.declared.writers.Writer.{Writer}
use Rattle.wbt_trace.specs.declared.ranges.TheConstants.{DEFAULT_BACKGROUND_RATIO, DEFAULT_RATIO}

-- What stands at most once is None until its line comes.
pub record Sofar : Type 0 where
  pub cpus : Option ℕ
  pub cap : Option ℕ
  pub ratio : Option ℕ
  pub bg_ratio : Option ℕ
  pub bytes : Option ℕ
  pub bg_bytes : Option ℕ
  pub avail : List Avail
  pub devices : List Device
  pub cgroups : List Cgroup
  pub contexts : List Context
  pub inodes : List Inode
  pub tasks : List TaskLine
  pub flushers : List FlusherLine
  pub actions : List Action
  pub writers : List Writer
  pub order : List Order
  pub halt : Option ℕ

-- before the first line
abbrev pub start : Sofar
start = record {
  cpus = None;
  cap = None;
  ratio = None;
  bg_ratio = None;
  bytes = None;
  bg_bytes = None;
  avail = [];
  devices = [];
  cgroups = [];
  contexts = [];
  inodes = [];
  tasks = [];
  flushers = [];
  actions = [];
  writers = [];
  order = [];
  halt = None;
}

-- the trace that has been said, with the defaults for what wasn't
abbrev pub trace_so_far : (s : Sofar) → Trace
trace_so_far s = record {
  cpus = unwrap_or s.cpus 0;
  cap = unwrap_or s.cap MOST_CAP;
  settings = record { ratio = unwrap_or s.ratio DEFAULT_RATIO; bg_ratio = unwrap_or s.bg_ratio DEFAULT_BACKGROUND_RATIO; bytes = unwrap_or s.bytes 0; bg_bytes = unwrap_or s.bg_bytes 0 };
  avail = s.avail;
  devices = s.devices;
  cgroups = s.cgroups;
  contexts = s.contexts;
  inodes = s.inodes;
  tasks = s.tasks;
  flushers = s.flushers;
  actions = s.actions;
  order = s.order;
  halt = s.halt;
}

-- the tick of the last line of available pages
abbrev pub last_from : (avails : List Avail) → Option ℕ
last_from [] = None
last_from (a ∷ []) = Some a.from
last_from (a ∷ b ∷ more) = last_from (b ∷ more)

-- the devices' least shares together, in percent
abbrev pub least_shares : (devices : List Device) → ℕ
least_shares devices = sum_by (λ device. device.min) devices

-- the device of the number; not a page a second where there is none
abbrev pub device_at : (d : ℕ) (devices : List Device) → Device
device_at d devices = slice_index_or devices d (record { rate = 0; min = 0; max = 0; strict = false; chunk = None; cyclic = false })

-- the devices, of which that of the number is strict
abbrev pub with_strict : (d : ℕ) (devices : List Device) → List Device
with_strict d devices = slice_set devices d (record (device_at d devices) { strict = true })

-- the devices, of which that of the number says with how many pages a scan ends at the latest
abbrev pub with_chunk : (d pages : ℕ) (devices : List Device) → List Device
with_chunk d pages devices = slice_set devices d (record (device_at d devices) { chunk = Some pages })

-- the devices, of which that of the number says that its scans go round
abbrev pub with_cyclic : (d : ℕ) (devices : List Device) → List Device
with_cyclic d devices = slice_set devices d (record (device_at d devices) { cyclic = true })

-- the task of the number; on the first CPU where there is none
abbrev pub task_at : (t : ℕ) (tasks : List TaskLine) → TaskLine
task_at t tasks = slice_index_or tasks t (record { cpu = 0; pace = None })

-- the tasks, of which that of the number says when it rests between its pages
abbrev pub with_pace : (t : ℕ) (pace : Pace) (tasks : List TaskLine) → List TaskLine
with_pace t pace tasks = slice_set tasks t (record (task_at t tasks) { pace = Some pace })

-- the context of the number; of the first device, in no cgroup, where there is none
abbrev pub context_at : (w : ℕ) (contexts : List Context) → Context
context_at w contexts = slice_index_or contexts w (record { device = 0; domain = 0; expire = None; estimate = None })

-- the contexts, of which that of the number says after how long its inodes are due
abbrev pub with_expire : (w centi : ℕ) (contexts : List Context) → List Context
with_expire w centi contexts = slice_set contexts w (record (context_at w contexts) { expire = Some centi })

-- the contexts, of which that of the number says its estimate at the opening
abbrev pub with_estimate : (w : ℕ) (estimate : FirstEstimate) (contexts : List Context) → List Context
with_estimate w estimate contexts = slice_set contexts w (record (context_at w contexts) { estimate = Some estimate })

-- the inodes' pages together
abbrev pub pages_in : (inodes : List Inode) → ℕ
pages_in inodes = sum_by (λ inode. inode.pages) inodes

-- the inode of the number; without pages where there is none
abbrev pub inode_at : (i : ℕ) (inodes : List Inode) → Inode
inode_at i inodes = slice_index_or inodes i (record { context = 0; first = 0; pages = 0 })
