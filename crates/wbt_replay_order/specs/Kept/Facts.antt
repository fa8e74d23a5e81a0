-- What a lawful trace says of its things by number.
use Rattle.std.specs.Prelude.{◌≡◌, ℕ, ◌+◌, ◌^◌, ◌<◌, ◌≤◌, Bool, true, false, ◌==◌, length, count_by, All, IfSome}
use Rattle.wbt_num.specs.declared.most.TheConstants.{MOST_CPUS, MOST_CAP, MOST_PAGES, MOST_TASKS, MOST_FLUSHERS, MOST_CONTEXTS, MOST_CGROUPS, MOST_DEVICES, MOST_ORDER_LINES, MOST_ACTIONS, MOST_WRITERS}
use Rattle.wbt_trace.specs.Lawful.{IsChunk, IsFirstEstimate, IsPace}
use Rattle.wbt_trace.specs.Sofar.{least_shares, pages_in}
use Rattle.wbt_trace.specs.WriterList.{is_writer}
use Rattle.wbt_trace.specs.declared.ranges.TheConstants.{MOST_PERCENT}
use Rattle.wbt_trace.specs.declared.trace.Trace.{Trace}
use Rattle.wbt_rules.specs.Things.{inode_of, context_of, context_at, group_of, device_of, device_at, end_of, flusher_cpu, flusher_device, rate_of}
use Rattle.wbt_rules.specs.Pace.{pace_of}
use Rattle.wbt_rules.specs.Thresholds.{cgroup_of}
use Rattle.wbt_replay_moves.specs.declared.state.ReplayJob.{ReplayJob}
use Rattle.wbt_replay_moves.specs.declared.state.ReplayJob.TheVariants as job
use Rattle.wbt_replay_order.specs.Definition.Opening.{first_cpu}
use Rattle.wbt_replay_order.specs.Definition.Order.{job_at}
use Rattle.wbt_replay_order.specs.Definition.Tasks.{task_cpu}
use Rattle.wbt_replay_order.specs.Claims.Setting.{writers_in, writer_at, inode_with}
use Rattle.wbt_rules.specs.Age.{expire_ticks}
use Rattle.wbt_expiry.specs.Kept.{reach}

-- the page is one of the inode's
pub record IsPageOf (trace : Trace) (inode page : ℕ) : Type 0 where
  pub there : inode < length trace.inodes
  pub after_first : (inode_of trace inode).first ≤ page
  pub before_end : page < end_of trace inode

-- the flusher is one of the CPU's
pub record IsFlusherOn (trace : Trace) (cpu flusher : ℕ) : Type 0 where
  pub there : flusher < length trace.flushers
  pub cpu_is : flusher_cpu trace flusher ≡ cpu

-- the task is one of the CPU's
pub record IsTaskOn (trace : Trace) (cpu task : ℕ) : Type 0 where
  pub there : task < length trace.tasks
  pub cpu_is : task_cpu trace task ≡ cpu

-- the job is one of the CPU's
abbrev pub IsJobOn : (trace : Trace) (cpu : ℕ) (job : ReplayJob) → Type 0
IsJobOn trace cpu job.Writer = 1 ≤ length (first_cpu trace cpu).tasks
IsJobOn trace cpu (job.Flusher flusher) = IsFlusherOn trace cpu flusher

-- whether the job is this flusher
abbrev pub is_job_of : (flusher : ℕ) (job : ReplayJob) → Bool
is_job_of flusher job.Writer = false
is_job_of flusher (job.Flusher g) = g == flusher

-- the bounds of a lawful trace, and what its lines name is there
pub record Facts (trace : Trace) : Type 0 where
  pub some_cpu : 1 ≤ trace.cpus
  pub few_cpus : trace.cpus ≤ MOST_CPUS
  pub some_cap : 1 ≤ trace.cap
  pub small_cap : trace.cap ≤ MOST_CAP
  pub few_pages : pages_in trace.inodes ≤ MOST_PAGES
  pub few_tasks : length trace.tasks ≤ MOST_TASKS
  pub few_flushers : length trace.flushers ≤ MOST_FLUSHERS
  pub few_contexts : length trace.contexts ≤ MOST_CONTEXTS
  pub few_cgroups : length trace.cgroups ≤ MOST_CGROUPS
  pub cgroups : (g : ℕ) → g < length trace.cgroups → ((cgroup_of trace g).filepages ≤ 2 ^ 40) × ((cgroup_of trace g).headroom ≤ 2 ^ 40)
  pub few_devices : length trace.devices ≤ MOST_DEVICES
  pub few_actions : length trace.actions ≤ MOST_ACTIONS
  pub few_orders : length trace.order ≤ MOST_ORDER_LINES
  pub few_writers : length (writers_in trace) ≤ MOST_WRITERS
  pub least : least_shares trace.devices ≤ MOST_PERCENT
  pub inode_some : (n : ℕ) → n < length trace.inodes → (inode_of trace n).first < end_of trace n
  pub inode_end : (n : ℕ) → n < length trace.inodes → end_of trace n ≤ pages_in trace.inodes
  pub inode_context : (n : ℕ) → n < length trace.inodes → context_of trace n < length trace.contexts
  pub inode_device : (n : ℕ) → n < length trace.inodes → device_of trace n < length trace.devices
  pub inode_is : (n p : ℕ) → IsPageOf trace n p → inode_with trace p ≡ n
  pub context_device : (k : ℕ) → k < length trace.contexts → (context_at trace k).device < length trace.devices
  -- an inode is due within the reach of a wheel
  pub soon : (k : ℕ) → k < length trace.contexts → expire_ticks trace k ≤ reach
  pub context_group : (k : ℕ) → k < length trace.contexts → group_of trace k ≤ length trace.cgroups
  pub shares : (d : ℕ) → d < length trace.devices → ((device_at trace d).min ≤ (device_at trace d).max) × ((device_at trace d).max ≤ MOST_PERCENT)
  pub rate : (d : ℕ) → d < length trace.devices → 1 ≤ rate_of trace d
  -- what lines say of scans, of first estimates and of paces is in range; a thing that isn't there has no such line
  pub chunks : (d : ℕ) → IfSome (device_at trace d).chunk IsChunk
  pub firsts : (k : ℕ) → IfSome (context_at trace k).estimate IsFirstEstimate
  pub paces : (t : ℕ) → IfSome (pace_of trace t) IsPace
  pub flusher_cpu_is : (f : ℕ) → f < length trace.flushers → flusher_cpu trace f < trace.cpus
  pub flusher_device_is : (f : ℕ) → f < length trace.flushers → flusher_device trace f < length trace.devices
  -- each device has a flusher
  pub manned : (d : ℕ) → d < length trace.devices → (f : ℕ) × (f < length trace.flushers) × (flusher_device trace f ≡ d)
  pub task_cpu_is : (t : ℕ) → t < length trace.tasks → task_cpu trace t < trace.cpus
  pub writer_is : (task context : ℕ) → is_writer task context (writers_in trace) ≡ true
      → (w : ℕ) × (w < length (writers_in trace)) × ((writer_at trace w).task ≡ task) × ((writer_at trace w).context ≡ context)
  pub jobs : (i : ℕ) → All (IsJobOn trace i) (first_cpu trace i).jobs
  pub tasks : (i : ℕ) → All (IsTaskOn trace i) (first_cpu trace i).tasks
  pub few_jobs : (i : ℕ) → length (first_cpu trace i).jobs ≤ MOST_FLUSHERS + 1
  pub few_tasks_on : (i : ℕ) → length (first_cpu trace i).tasks ≤ MOST_TASKS
  pub flusher_job : (f : ℕ) → f < length trace.flushers
      → (k : ℕ) × (k < length (first_cpu trace (flusher_cpu trace f)).jobs) × (job_at k (first_cpu trace (flusher_cpu trace f)) ≡ job.Flusher f)
  -- a flusher is one job of its CPU
  pub job_once : (f : ℕ) → f < length trace.flushers → count_by (is_job_of f) (first_cpu trace (flusher_cpu trace f)).jobs ≡ 1
