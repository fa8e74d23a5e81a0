-- What the structs that cross to C mean: each is a value of the crates below, with the same numbers.
use Rattle.std.specs.Prelude.{ℕ, Bool, cond, ◌==◌, Option, Some, None}
use Rattle.wbt_num.specs.declared.limits.Limits.{Limits}
use Rattle.wbt_num.specs.declared.limits.Settings.{Settings}
use Rattle.wbt_limits.specs.declared.domain.Pair.{Pair}
use Rattle.wbt_position.specs.declared.ratio.DomainRead.{DomainRead}
use Rattle.wbt_estimate.specs.declared.estimate.Estimate.{Estimate}
use Rattle.wbt_estimate.specs.declared.estimate.Sample.{Sample}
use Rattle.wbt_pause.specs.declared.decision.Decision.{Decision}
use Rattle.wbt_pause.specs.declared.decision.Kind.{Kind}
use Rattle.wbt_pause.specs.declared.decision.Kind.TheVariants.{Exempt, Free, Go, Wait}
use Rattle.wbt_pause.specs.declared.pauses.MinPause.{MinPause}
use Rattle.wbt_pause.specs.declared.reads.Reads.{Reads}
use Rattle.wbt_pause.specs.declared.reads.Task.{Task}
use Rattle.wbt_task.specs.declared.allowance.CpuLocal.{CpuLocal}
use Rattle.wbt_task.specs.declared.allowance.Due.{Due}
use Rattle.wbt_task.specs.declared.allowance.Due.TheVariants.{No, Check as IsDue}
use Rattle.wbt_calls.specs.declared.types.Check.{Check}
use Rattle.wbt_calls.specs.declared.types.Counts.{Counts}
use Rattle.wbt_calls.specs.declared.types.Decided.{Decided}
use Rattle.wbt_calls.specs.declared.types.Domain.{Domain}
use Rattle.wbt_calls.specs.declared.types.Knobs.{Knobs}
use Rattle.wbt_calls.specs.declared.types.Least.{Least}
use Rattle.wbt_calls.specs.declared.types.Measured.{Measured}
use Rattle.wbt_calls.specs.declared.types.Rates.{Rates}
use Rattle.wbt_calls.specs.declared.types.Thresholds.{Thresholds}
use Rattle.wbt_calls.specs.declared.types.Writer.{Writer}

-- a truth value is 0 or 1
abbrev pub flag : (holds : Bool) → ℕ
flag holds = cond holds 1 0

-- the limits of a domain, and what was read of it
abbrev pub limits_in : (domain : Domain) → Limits
limits_in domain = record { thresh = domain.thresh; bg = domain.bg; hard = domain.hard }

-- what a check reads of a domain: its limits, its pages, and the context's part of its threshold
abbrev pub read_of : (domain : Domain) → DomainRead
read_of domain = record { limits = limits_in domain; dirty = domain.dirty; wb_thresh = domain.wb_thresh }

-- the cgroup's domain counts where the flag is set
abbrev pub cgroup_of : (check : Check) → Option DomainRead
cgroup_of check = cond (check.has_cgroup == 0) None (Some (read_of check.cgroup))

-- what a check reads in all
abbrev pub reads_of : (check : Check) → Reads
reads_of check = record {
  global = read_of check.global;
  cgroup = cgroup_of check;
  wb_dirty = check.wb_dirty;
  cpus = check.cpus;
  cap = check.cap;
}

-- rates of which only the average and the rate limit matter
abbrev pub rates_of : (avg ratelimit : ℕ) → Estimate
rates_of avg ratelimit = record {
  version = 0;
  bw = avg;
  avg = avg;
  ratelimit = ratelimit;
  balanced = ratelimit;
  written_stamp = 0;
  dirtied_stamp = 0;
  at = 0;
}

-- a writer's numbers, either way
abbrev pub task_of : (writer : Writer) → Task
task_of writer = record {
  nr_dirtied = writer.nr_dirtied;
  nr_dirtied_pause = writer.nr_dirtied_pause;
  paused_when = writer.paused_when;
}

-- a writer's numbers as they cross back
abbrev pub writer_of : (task : Task) → Writer
writer_of task = record {
  nr_dirtied = task.nr_dirtied;
  nr_dirtied_pause = task.nr_dirtied_pause;
  paused_when = task.paused_when;
}

-- the kinds of decisions by number
abbrev pub kind_number : (kind : Kind) → ℕ
kind_number Free = 0
kind_number Go = 1
kind_number Exempt = 2
kind_number Wait = 3

-- what a check decided, as it crosses back
abbrev pub decided_by : (decision : Decision) → Decided
decided_by decision = record {
  kind = kind_number decision.kind;
  pause = decision.pause;
  left = decision.left;
  writer = writer_of decision.task;
  exceeded = flag decision.exceeded;
}

-- the settings of a machine: percentages, and the bytes that replace them where they aren't 0
abbrev pub settings_of : (knobs : Knobs) → Settings
settings_of knobs = record { ratio = knobs.ratio; bg_ratio = knobs.bg_ratio; bytes = knobs.bytes; bg_bytes = knobs.bg_bytes }

-- two thresholds as they cross back, in pages
abbrev pub thresholds_in : (pair : Pair) → Thresholds
thresholds_in pair = record { thresh = pair.thresh; bg = pair.bg }

-- an estimate, either way
abbrev pub estimate_of : (rates : Rates) → Estimate
estimate_of rates = record {
  version = rates.version;
  bw = rates.bw;
  avg = rates.avg;
  ratelimit = rates.ratelimit;
  balanced = rates.balanced;
  written_stamp = rates.written_stamp;
  dirtied_stamp = rates.dirtied_stamp;
  at = rates.at;
}

-- an estimate as it crosses back
abbrev pub rates_in : (estimate : Estimate) → Rates
rates_in estimate = record {
  version = estimate.version;
  bw = estimate.bw;
  avg = estimate.avg;
  ratelimit = estimate.ratelimit;
  balanced = estimate.balanced;
  written_stamp = estimate.written_stamp;
  dirtied_stamp = estimate.dirtied_stamp;
  at = estimate.at;
}

-- a sample of what was measured; its flag is set where it is 1
abbrev pub sample_of : (measured : Measured) → Sample
sample_of measured = record {
  now = measured.moment;
  written = measured.written;
  dirtied = measured.dirtied;
  ratio = measured.ratio;
  below_setpoint = measured.below_setpoint == 1;
}

-- the least pause, in ticks, and the allowance after a pause, in pages, as they cross back
abbrev pub least_in : (least : MinPause) → Least
least_in least = record { pages = least.pages; pause = least.pause }

-- what a CPU counts, either way, and whether a check is due
abbrev pub local_of : (counts : Counts) → CpuLocal
local_of counts = record { since_check = counts.since_check; leaks = counts.leaks }

-- what a CPU counts as it crosses back
abbrev pub counts_in : (local : CpuLocal) → Counts
counts_in local = record { since_check = local.since_check; leaks = local.leaks }

-- whether a check is due, as a number: 1 where it is
abbrev pub due_number : (due : Due) → ℕ
due_number No = 0
due_number IsDue = 1
